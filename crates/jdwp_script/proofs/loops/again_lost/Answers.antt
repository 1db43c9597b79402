use Rattle.std.proofs.lemmas.Grind.{common_steps}
use Rattle.std.proofs.Common.{arith}
use Rattle.jdwp_script.proofs.Again.{again_is}
use Rattle.jdwp_script.proofs.loops.again_lost.Goals as goal

pub returns-then-has_bad : goal.returns-then-has_bad
returns-then-has_bad c = grind (arith, common_steps, again_is)

pub returns-else-has_bad : goal.returns-else-has_bad
returns-else-has_bad c = grind (arith, common_steps, again_is)
