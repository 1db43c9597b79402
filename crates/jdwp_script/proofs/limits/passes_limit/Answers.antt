use Rattle.std.proofs.lemmas.Grind.{common_steps}
use Rattle.std.proofs.Common.{arith}
use Rattle.jdwp_script.proofs.limits.passes_limit.Goals as goal

pub returns-then-is_long : goal.returns-then-is_long
returns-then-is_long c = grind (arith, common_steps)

pub returns : goal.returns
returns c = grind (arith, common_steps)
