-- Sessions on connections.
use Rattle.std.specs.Prelude.{◌≡◌, Bool, true, false, Option, is_some}
use Rattle.jdwp_end.specs.declared.pipes.ended.Ended.{Ended}
use Rattle.jdwp_end.specs.declared.pipes.ended.Ended.TheVariants.{Done, LostByRead, LostByWrite, Refused, NoMemory, TurnLimit}
use Rattle.jdwp_port.specs.declared.faults.PortCause.{PortCause}

-- a session that ended so was lost
abbrev pub is_lost : Ended → Bool
is_lost LostByRead = true
is_lost LostByWrite = true
is_lost Done = false
is_lost (Refused number) = false
is_lost NoMemory = false
is_lost TurnLimit = false

-- a connection's failure is told of a session that was lost alone
abbrev pub FailsOnlyLost : Ended → Option PortCause → Type 0
FailsOnlyLost how failure = is_some failure ≡ true → is_lost how ≡ true
