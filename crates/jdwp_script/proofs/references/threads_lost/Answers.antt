use Rattle.std.proofs.lemmas.Grind.{common_steps}
use Rattle.std.proofs.Common.{arith}
use Rattle.jdwp_script.proofs.references.threads_lost.Goals as goal

pub returns-then-thread-eq0 : goal.returns-then-thread-eq0
returns-then-thread-eq0 c = grind (arith, common_steps)

pub loop-thread-preserved : goal.loop-thread-preserved
loop-thread-preserved c = grind (arith, common_steps)

pub returns : goal.returns
returns c = grind (arith, common_steps)
