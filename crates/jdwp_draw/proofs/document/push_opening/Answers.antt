use Rattle.std.proofs.Common.{append_assoc}
use Rattle.jdwp_draw.proofs.document.push_opening.Goals as goal

pub returns : goal.returns
returns c = rw (c.in_ok-write-2.ensures.bytes, c.in_ok-write.ensures.bytes, c.column_left.ensures, c.row_top.ensures) (simp append_assoc)
