use Rattle.std.proofs.Common.{append_assoc}
use Rattle.jdwp_draw.proofs.cells.push_bar.Goals as goal

pub returns : goal.returns
returns c = rw (c.in_ok-write.ensures.bytes, c.column_left.ensures, c.row_top-top.ensures) (simp append_assoc)
