use Rattle.std.proofs.lemmas.Grind.{common_steps}
use Rattle.std.proofs.Common.{arith}
use Rattle.jdwp_mirror.proofs.requests.Requests.remove_in.Goals as goal

pub returns-then-asked-lt2 : goal.returns-then-asked-lt2
returns-then-asked-lt2 c = grind (arith, common_steps)

pub returns-in-One : goal.returns-in-One
returns-in-One c = grind (arith, common_steps)

pub returns-then-asked-lt3 : goal.returns-then-asked-lt3
returns-then-asked-lt3 c = grind (arith, common_steps)

pub returns-then-asked-lt3-2 : goal.returns-then-asked-lt3-2
returns-then-asked-lt3-2 c = grind (arith, common_steps)

pub returns-then-asked-lt3-3 : goal.returns-then-asked-lt3-3
returns-then-asked-lt3-3 c = grind (arith, common_steps)

pub returns-then-asked-lt3-4 : goal.returns-then-asked-lt3-4
returns-then-asked-lt3-4 c = grind (arith, common_steps)

pub returns-else-asked-lt3 : goal.returns-else-asked-lt3
returns-else-asked-lt3 c = grind (arith, common_steps)
