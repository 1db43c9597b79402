use Rattle.std.proofs.lemmas.Grind.{common_steps}
use Rattle.std.proofs.Common.{arith}
use Rattle.jdwp_script_machine.proofs.answers.answer_at.Goals as goal

pub returns-in-1 : goal.returns-in-1
returns-in-1 c = grind (arith, common_steps)

pub returns-in-2 : goal.returns-in-2
returns-in-2 c = grind (arith, common_steps)

pub returns-in-3 : goal.returns-in-3
returns-in-3 c = grind (arith, common_steps)

pub returns-in-6 : goal.returns-in-6
returns-in-6 c = grind (arith, common_steps)

pub returns-in-9 : goal.returns-in-9
returns-in-9 c = grind (arith, common_steps)

pub returns-in-10 : goal.returns-in-10
returns-in-10 c = grind (arith, common_steps)

pub returns-in-11 : goal.returns-in-11
returns-in-11 c = grind (arith, common_steps)

pub returns-in-12 : goal.returns-in-12
returns-in-12 c = grind (arith, common_steps)

pub returns-in-13 : goal.returns-in-13
returns-in-13 c = grind (arith, common_steps)

pub returns-in-15 : goal.returns-in-15
returns-in-15 c = grind (arith, common_steps)

pub returns-in-16 : goal.returns-in-16
returns-in-16 c = grind (arith, common_steps)

pub returns-in-18 : goal.returns-in-18
returns-in-18 c = grind (arith, common_steps)

pub returns-in_default : goal.returns-in_default
returns-in_default c = grind (arith, common_steps)
