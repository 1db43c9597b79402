-- What is told of live sessions at a port.
use Rattle.std.specs.Prelude.{List, [], ◌∷◌, ◌++◌, Option, Some, None}
use Rattle.jdwp_end.specs.declared.pipes.ended.Ended.{Ended}
use Rattle.jdwp_end.specs.declared.pipes.ended.Ended.TheVariants.{Done, LostByRead, LostByWrite, Refused, NoMemory, TurnLimit}
use Rattle.jdwp_port.specs.declared.notices.Notice.TheVariants as port
use Rattle.jdwp_port.specs.declared.live.causes.LiveCause.{LiveCause}
use Rattle.jdwp_port.specs.declared.live.causes.LiveCause.TheVariants as cause
use Rattle.jdwp_port.specs.declared.live.notices.LiveNotice.{LiveNotice}
use Rattle.jdwp_port.specs.declared.live.notices.LiveNotice.TheVariants as notice

-- of a session that was lost, why its connection failed, if it did
abbrev pub notice_of_loss : Option LiveCause → Option LiveNotice
notice_of_loss (Some cause.NoHandshake) = Some notice.NoHandshake
notice_of_loss (Some (cause.Port error)) = Some (notice.Port (port.Lost error))
notice_of_loss None = None

-- the fault of a session that was refused, and why the connection of one failed that was lost so; of any other nothing
abbrev pub live_notice_of : Ended → Option LiveCause → Option LiveNotice
live_notice_of (Refused number) failure = Some (notice.Port (port.Refused number))
live_notice_of LostByRead failure = notice_of_loss failure
live_notice_of LostByWrite failure = notice_of_loss failure
live_notice_of Done failure = None
live_notice_of NoMemory failure = None
live_notice_of TurnLimit failure = None

-- what was told, and then this, if there is something to tell
abbrev pub with_notice : List LiveNotice → Option LiveNotice → List LiveNotice
with_notice told None = told
with_notice told (Some notice) = told ++ notice ∷ []
