use Rattle.std.proofs.Common.{append_assoc}
use Rattle.jdwp_draw.proofs.document.push_heading.Goals as goal

pub returns : goal.returns
returns c = rw c.in_ok-write.ensures.bytes (simp append_assoc)
