use Rattle.std.proofs.Common.{append_assoc}
use borrow.Author.Tests.{le-leb}
use Rattle.jdwp_draw.proofs.message.push_tie.Goals as goal

pub returns : goal.returns
returns c =
    let drawn = le-leb c.args.from c.in-Some.command c.if-command-from.false in
    rw (c.in_ok-write.ensures.bytes, c.row_top.ensures, c.row_top-2.ensures, c.in-Some.is, drawn) (simp append_assoc)
