use Rattle.std.proofs.lemmas.Grind.{common_steps}
use Rattle.std.proofs.Common.{arith}
use Rattle.jdwp_event.proofs.request.matches.Goals as goal

pub returns-then-not-passes : goal.returns-then-not-passes
returns-then-not-passes c = grind (arith, common_steps)

pub loop-limit-preserved : goal.loop-limit-preserved
loop-limit-preserved c = grind (arith, common_steps)

pub returns : goal.returns
returns c = grind (arith, common_steps)
