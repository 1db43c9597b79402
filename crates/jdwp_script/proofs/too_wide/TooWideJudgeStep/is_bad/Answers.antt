use Rattle.std.proofs.lemmas.Grind.{common_steps}
use Rattle.std.proofs.Common.{arith}
use Rattle.jdwp_script.proofs.too_wide.TooWideJudgeStep.is_bad.Goals as goal

pub returns-else-is_wide-3 : goal.returns-else-is_wide-3
returns-else-is_wide-3 c = grind (arith, common_steps)
