use Rattle.std.proofs.lemmas.Grind.{common_steps}
use Rattle.std.proofs.Common.{arith}
use Rattle.jdwp_script_machine.proofs.slots.all_may_stand.Goals as goal

pub returns-then-not-may_hold : goal.returns-then-not-may_hold
returns-then-not-may_hold c = grind (arith, common_steps)

pub loop-value-preserved : goal.loop-value-preserved
loop-value-preserved c = grind (arith, common_steps)

pub returns : goal.returns
returns c = grind (arith, common_steps)
