use Rattle.std.proofs.lemmas.Grind.{common_steps}
use Rattle.std.proofs.Common.{arith}
use Rattle.jdwp_script_machine.proofs.machine_answers.classes_by_signature.Goals as goal

pub returns-in_err-classes-in-One : goal.returns-in_err-classes-in-One
returns-in_err-classes-in-One c = grind (arith, common_steps)

pub returns-in_ok-classes-in-One : goal.returns-in_ok-classes-in-One
returns-in_ok-classes-in-One c = grind (arith, common_steps)

pub returns-in_default : goal.returns-in_default
returns-in_default c = grind (arith, common_steps)
