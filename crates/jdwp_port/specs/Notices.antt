-- What is told of sessions at a port.
use Rattle.std.specs.Prelude.{List, [], ◌∷◌, ◌++◌, Option, Some, None}
use Rattle.jdwp_end.specs.declared.pipes.ended.Ended.{Ended}
use Rattle.jdwp_end.specs.declared.pipes.ended.Ended.TheVariants.{Done, LostByRead, LostByWrite, Refused, NoMemory, TurnLimit}
use Rattle.jdwp_port.specs.declared.faults.PortCause.{PortCause}
use Rattle.jdwp_port.specs.declared.notices.Notice.{Notice}
use Rattle.jdwp_port.specs.declared.notices.Notice.TheVariants as notice

-- the fault of a session that was refused, and why the connection of one failed that was lost so; of any other nothing
abbrev pub notice_of : Ended → Option PortCause → Option Notice
notice_of (Refused number) failure = Some (notice.Refused number)
notice_of LostByRead (Some cause) = Some (notice.Lost cause)
notice_of LostByWrite (Some cause) = Some (notice.Lost cause)
notice_of LostByRead None = None
notice_of LostByWrite None = None
notice_of Done failure = None
notice_of NoMemory failure = None
notice_of TurnLimit failure = None

-- what was told, and then this, if there is something to tell
abbrev pub with_notice : List Notice → Option Notice → List Notice
with_notice told None = told
with_notice told (Some notice) = told ++ notice ∷ []
