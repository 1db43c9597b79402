use Rattle.std.proofs.lemmas.Grind.{common_steps}
use Rattle.std.proofs.Common.{arith}
use Rattle.jdwp_script.specs.Meanings.{script_part}
use Rattle.jdwp_script_machine.proofs.Reaches.{above_one}
use Rattle.jdwp_script_machine.proofs.layers.next_layer.Goals as goal

pub loop-id-preserved : goal.loop-id-preserved
loop-id-preserved c = record {
  found = above_one (script_part c.args.script.now) c.args.found.now c.loop-id.found c.find_above.new.found c.args.layer.now c.loop-id.id-index c.loop-id-test.true c.loop-id.invariant.found c.in_ok-find_above.ensures.found;
  listed = c.in_ok-find_above.ensures.listed c.args.found.now c.loop-id.invariant.listed;
}

pub returns : goal.returns
returns c = grind (arith, common_steps)
