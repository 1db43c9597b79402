use Rattle.std.proofs.lemmas.Grind.{common_steps}
use Rattle.std.proofs.Common.{arith}
use Rattle.jdwp_script_machine.proofs.requests.entries_of.Goals as goal

pub returns-then-len-lt2147483648 : goal.returns-then-len-lt2147483648
returns-then-len-lt2147483648 c = grind (arith, common_steps)

pub returns-else-len-lt2147483648 : goal.returns-else-len-lt2147483648
returns-else-len-lt2147483648 c = grind (arith, common_steps)

pub returns-in_default : goal.returns-in_default
returns-in_default c = grind (arith, common_steps)
