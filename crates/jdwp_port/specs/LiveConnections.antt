-- Live sessions on connections.
use Rattle.std.specs.Prelude.{◌≡◌, true, Option, is_some}
use Rattle.jdwp_end.specs.declared.pipes.ended.Ended.{Ended}
use Rattle.jdwp_port.specs.Connections.{is_lost}
use Rattle.jdwp_port.specs.declared.live.causes.LiveCause.{LiveCause}

-- a connection's failure is told of a session that was lost alone
abbrev pub FailsOnlyLost : Ended → Option LiveCause → Type 0
FailsOnlyLost how failure = is_some failure ≡ true → is_lost how ≡ true
