use Rattle.std.proofs.lemmas.Grind.{common_steps}
use Rattle.std.proofs.Common.{arith}
use Rattle.jdwp_layout.proofs.writing.put_item.Goals as goal

pub returns-in-Region-Region-clause-err : goal.returns-in-Region-Region-clause-err
returns-in-Region-Region-clause-err c = grind (arith, common_steps)

pub returns-in_default : goal.returns-in_default
returns-in_default c = grind (arith, common_steps)

pub returns-in_default-2 : goal.returns-in_default-2
returns-in_default-2 c = grind (arith, common_steps)

pub returns-in_default-3 : goal.returns-in_default-3
returns-in_default-3 c = grind (arith, common_steps)
