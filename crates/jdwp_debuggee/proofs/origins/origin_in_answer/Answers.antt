use Rattle.std.proofs.lemmas.Grind.{common_steps}
use Rattle.std.proofs.Common.{arith}
use Rattle.jdwp_debuggee.proofs.origins.origin_in_answer.Goals as goal

pub returns-in_default-items : goal.returns-in_default-items
returns-in_default-items c = grind (arith, common_steps)

pub returns-in_default-items-2 : goal.returns-in_default-items-2
returns-in_default-items-2 c = grind (arith, common_steps)

pub returns-in_default-items-3 : goal.returns-in_default-items-3
returns-in_default-items-3 c = grind (arith, common_steps)

pub overflow_cast-result : goal.overflow_cast-result
overflow_cast-result c = grind (arith, common_steps)

pub returns : goal.returns
returns c = grind (arith, common_steps)
