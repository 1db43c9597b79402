use Rattle.std.proofs.Common.{append_assoc, rules}
use Rattle.std.proofs.lemmas.Int.{to_z-of_z}
use mir.Syntax.{w32}
use mir.Val.{SFits}
use Rattle.jdwp_draw.proofs.heads.push_head.Goals as goal

pub returns-in_ok-write-in-Thread : goal.returns-in_ok-write-in-Thread
returns-in_ok-write-in-Thread c = rw (c.in_ok-write-in-Thread.ensures.bytes, c.in-Thread.is, c.column_left.ensures) (simp append_assoc)

pub returns-in_ok-write-in-Request : goal.returns-in_ok-write-in-Request
returns-in_ok-write-in-Request c =
    let fits : SFits w32 c.in-Request.request.id = search rules in
    rw (c.in_ok-write-in-Request.ensures.bytes, c.in-Request.is, c.column_left.ensures, to_z-of_z w32 c.in-Request.request.id fits) (simp append_assoc)
