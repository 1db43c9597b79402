use Rattle.std.proofs.lemmas.Grind.{common_steps}
use Rattle.std.proofs.Common.{arith}
use Rattle.jdwp_debuggee.proofs.origins.newest_place.Goals as goal

pub returns-in_default : goal.returns-in_default
returns-in_default c = grind (arith, common_steps)

pub returns-in-FrameId : goal.returns-in-FrameId
returns-in-FrameId c = grind (arith, common_steps)
