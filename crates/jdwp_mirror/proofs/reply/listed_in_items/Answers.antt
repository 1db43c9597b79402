use Rattle.std.proofs.lemmas.Grind.{common_steps}
use Rattle.std.proofs.Common.{arith}
use Rattle.jdwp_mirror.proofs.reply.listed_in_items.Goals as goal

pub returns-in-Many : goal.returns-in-Many
returns-in-Many c = grind (arith, common_steps)

pub returns-in_default : goal.returns-in_default
returns-in_default c = grind (arith, common_steps)
