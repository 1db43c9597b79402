use Rattle.std.proofs.Common.{append_assoc}
use Rattle.jdwp_draw.proofs.rows.push_fault.Goals as goal

pub returns : goal.returns
returns c = rw (c.in_ok-write.ensures.bytes, c.row_top.ensures, c.row_top-2.ensures, c.printed_number-number.ensures, c.in-Some.is) (simp append_assoc)
