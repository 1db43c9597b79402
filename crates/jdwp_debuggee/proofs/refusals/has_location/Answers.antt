use Rattle.std.proofs.lemmas.Grind.{common_steps}
use Rattle.std.proofs.Common.{arith}
use Rattle.jdwp_debuggee.proofs.refusals.has_location.Goals as goal

pub returns-in-LocationOnly : goal.returns-in-LocationOnly
returns-in-LocationOnly c = grind (arith, common_steps)

pub loop-modifier-preserved : goal.loop-modifier-preserved
loop-modifier-preserved c = grind (arith, common_steps)

pub returns : goal.returns
returns c = grind (arith, common_steps)
