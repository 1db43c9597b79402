use Rattle.std.proofs.Common.{rules}
use Rattle.jdwp_layout.proofs.entry.scalar_size.Goals as goal

pub returns-in-FrameId : goal.returns-in-FrameId
returns-in-FrameId c = search rules
