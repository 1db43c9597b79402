use Rattle.std.proofs.lemmas.Grind.{common_steps}
use Rattle.std.proofs.Common.{arith}
use Rattle.jdwp_script_machine.proofs.entries.Tell.tell_each.Goals as goal

pub loop-thing-preserved : goal.loop-thing-preserved
loop-thing-preserved c = grind (arith, common_steps)

pub returns : goal.returns
returns c = grind (arith, common_steps)
