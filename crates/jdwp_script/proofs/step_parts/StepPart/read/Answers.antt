use Rattle.std.proofs.lemmas.Grind.{common_steps}
use Rattle.std.proofs.Common.{arith}
use Rattle.jdwp_script.proofs.step_parts.StepPart.read.Goals as goal

pub returns-in_err-list : goal.returns-in_err-list
returns-in_err-list c = grind (arith, common_steps)

pub returns-in_default : goal.returns-in_default
returns-in_default c = grind (arith, common_steps)

pub returns-in_default-as_str : goal.returns-in_default-as_str
returns-in_default-as_str c = grind (arith, common_steps)

pub returns : goal.returns
returns c = grind (arith, common_steps)
