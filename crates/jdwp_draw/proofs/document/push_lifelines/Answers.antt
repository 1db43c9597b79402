use Rattle.std.proofs.Common.{append_assoc}
use Rattle.jdwp_draw.proofs.document.push_lifelines.Goals as goal

pub returns : goal.returns
returns c = rw (c.in_ok-write.ensures.bytes, c.in_ok-push_str.ensures.bytes, c.row_top.ensures) (simp append_assoc)
