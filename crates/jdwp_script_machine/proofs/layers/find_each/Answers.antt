use Rattle.std.proofs.lemmas.Grind.{common_steps}
use Rattle.std.proofs.Common.{arith}
use Rattle.jdwp_script_machine.proofs.Sets.{ids_one}
use Rattle.jdwp_script_machine.proofs.layers.find_each.Goals as goal

pub loop-id-preserved : goal.loop-id-preserved
loop-id-preserved c = record {
  found = ids_one c.args.found.now c.loop-id.found c.find.new.found c.args.ids.now c.loop-id.id-index _ c.loop-id-test.true c.loop-id.invariant.found c.in_ok-find.ensures.found;
  listed = λ before first. c.in_ok-find.ensures.listed before (c.loop-id.invariant.listed before first);
}

pub returns : goal.returns
returns c = grind (arith, common_steps)
