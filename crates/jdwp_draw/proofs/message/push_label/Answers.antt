use Rattle.std.proofs.Common.{append_assoc}
use Rattle.jdwp_draw.proofs.message.push_label.Goals as goal

pub returns : goal.returns
returns c = rw (c.in_ok-push_str.ensures.bytes, c.in_ok-push_cut.ensures, c.in_ok-write.ensures.bytes, c.row_top.ensures, c.min.ensures) (simp append_assoc)
