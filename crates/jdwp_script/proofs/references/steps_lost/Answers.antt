use Rattle.std.proofs.lemmas.Grind.{common_steps}
use Rattle.std.proofs.Common.{arith}
use Rattle.jdwp_script.proofs.references.steps_lost.Goals as goal

pub returns-then-step_lost : goal.returns-then-step_lost
returns-then-step_lost c = grind (arith, common_steps)

pub loop-step-preserved : goal.loop-step-preserved
loop-step-preserved c = grind (arith, common_steps)

pub returns : goal.returns
returns c = grind (arith, common_steps)
