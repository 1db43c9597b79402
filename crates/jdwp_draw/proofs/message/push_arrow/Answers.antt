use Rattle.std.proofs.Common.{append_assoc}
use Rattle.jdwp_draw.proofs.message.push_arrow.Goals as goal

pub returns-in_ok-write-in-Debugger-default : goal.returns-in_ok-write-in-Debugger-default
returns-in_ok-write-in-Debugger-default c =
    rw (c.in_ok-write-in-Debugger-default.ensures.bytes, c.in-Debugger-default.is-0, c.row_top.ensures) (simp append_assoc)

pub returns-in_ok-write-in-Target-Some : goal.returns-in_ok-write-in-Target-Some
returns-in_ok-write-in-Target-Some c =
    rw (c.in_ok-write-in-Target-Some.ensures.bytes, c.in-Target-Some.is-0, c.in-Target-Some.is-1, c.row_top.ensures) (simp append_assoc)

pub returns-in_ok-write-in-Target-None : goal.returns-in_ok-write-in-Target-None
returns-in_ok-write-in-Target-None c =
    rw (c.in_ok-write-in-Target-None.ensures.bytes, c.in-Target-None.is-0, c.in-Target-None.is-1, c.row_top.ensures) (simp append_assoc)
