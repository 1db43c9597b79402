-- How a session ended, and where it was lost.
use Rattle.std.specs.Prelude.{◌≡◌, ◌≢◌, ℕ, Bool, true, false, if◌then◌else◌, Option, None, Some}
use Rattle.std.specs.IoError.{error_kind}
use Rattle.std.specs.declared.io.Error.{Error}
use Rattle.std.specs.declared.io.ErrorKind.{ErrorKind}
use Rattle.std.specs.declared.io.ErrorKind.TheVariants.{BrokenPipe, WouldBlock}
use Rattle.jdwp_wire.specs.Limits.{Limits}
use Rattle.jdwp_end.specs.declared.pipes.ended.Ended.{Ended}
use Rattle.jdwp_end.specs.declared.pipes.ended.Ended.TheVariants.{LostByRead, LostByWrite, NoMemory}
use Rattle.jdwp_attach.specs.declared.attached.Attached.{Attached}
use Rattle.jdwp_attach.specs.declared.attached.Attached.TheVariants as run
use Rattle.jdwp_port.specs.declared.connection.AtPort.{AtPort}
use Rattle.jdwp_port.specs.declared.faults.PortCause.{PortCause}
use Rattle.jdwp_port.specs.declared.faults.PortCause.TheVariants as cause
use Rattle.jdwp_port.specs.declared.faults.PortFault.{PortFault}
use Rattle.jdwp_port.specs.declared.faults.PortFault.TheVariants as port
use Rattle.jdwp_program.specs.declared.losing.Side.{Side}
use Rattle.jdwp_program.specs.declared.losing.Loss.{Loss}
use Rattle.jdwp_program.specs.declared.losing.Loss.TheVariants.{FileEnded, Unread, Unwritten, PortEnded, Port, Silent, Output, ReaderGone}
use Rattle.jdwp_program.specs.declared.outcome.Outcome.{Outcome}
use Rattle.jdwp_program.specs.declared.outcome.Outcome.TheVariants.{Session, Lost, RefusedLine, Standstill, Unreached, UsedUp, Planned, Capture, Version}

-- What is told of a session that ended so, which read from the first file, wrote to the second and printed on an output that failed so, if
-- it did. A read that failed without an error found the file's end. Of a write that failed the file's error is told, and that of the output
-- where the file had none.
abbrev pub IsEndOf : Ended → Side → Side → Option Error → Outcome → Type 0
IsEndOf ended from to output (Lost (FileEnded path)) = (ended ≡ LostByRead) × (path ≡ from.path) × (from.failure ≡ None)
IsEndOf ended from to output (Lost (Unread path error)) = (ended ≡ LostByRead) × (path ≡ from.path) × (from.failure ≡ Some error)
IsEndOf ended from to output (Lost (Unwritten path error)) = (ended ≡ LostByWrite) × (path ≡ to.path) × (to.failure ≡ Some error)
IsEndOf ended from to output (Lost (Output error)) = (ended ≡ LostByWrite) × (to.failure ≡ None) × (output ≡ Some error) × (error_kind error ≢ BrokenPipe)
IsEndOf ended from to output (Lost (PortEnded number)) = ⊥
IsEndOf ended from to output (Lost (Port number cause)) = ⊥
IsEndOf ended from to output (Lost (Silent number milliseconds)) = ⊥
IsEndOf ended from to output (Lost ReaderGone) = (ended ≡ LostByWrite) × (to.failure ≡ None) × (error : Error) × (output ≡ Some error) × (error_kind error ≡ BrokenPipe)
IsEndOf ended from to output (Session told) = (told ≡ ended) × (ended ≢ LostByRead) × (ended ≡ LostByWrite → (to.failure ≡ None) × (output ≡ None))
IsEndOf ended from to output (RefusedLine line number most) = ⊥
IsEndOf ended from to output (Standstill line awaited) = ⊥
IsEndOf ended from to output (Unreached line awaited) = ⊥
IsEndOf ended from to output (UsedUp line awaited) = ⊥
IsEndOf ended from to output (Planned verdict) = ⊥
IsEndOf ended from to output (Capture told) = ⊥
IsEndOf ended from to output (Version told) = ⊥

-- What is told of the session of a plan within these limits: where the command of a line was refused, this line and the number of the
-- refusal; else the same.
abbrev pub IsEndOfPlan : Attached → Limits → Side → Side → Option Error → Outcome → Type 0
IsEndOfPlan (run.RefusedLine line number) limits from to output outcome = outcome ≡ RefusedLine line number limits.pending
IsEndOfPlan (run.Ended ended) limits from to output outcome = IsEndOf ended from to output outcome

-- What is told of the session of a plan within these limits over no files, which printed on an output that failed so, if it did: where the command of a line was
-- refused, this line; else how it ended, but where a write failed and the output did, that alone.
abbrev pub IsEndWithoutFiles : Attached → Limits → Option Error → Outcome → Type 0
IsEndWithoutFiles (run.RefusedLine line number) limits output outcome = outcome ≡ RefusedLine line number limits.pending
IsEndWithoutFiles (run.Ended ended) limits output (Lost (Output error)) = (ended ≡ LostByWrite) × (output ≡ Some error) × (error_kind error ≢ BrokenPipe)
IsEndWithoutFiles (run.Ended ended) limits output (Lost ReaderGone) = (ended ≡ LostByWrite) × (error : Error) × (output ≡ Some error) × (error_kind error ≡ BrokenPipe)
IsEndWithoutFiles (run.Ended ended) limits output (Session told) = (told ≡ ended) × (ended ≡ LostByWrite → output ≡ None)
IsEndWithoutFiles (run.Ended ended) limits output other = ⊥

-- What is told of the session of a plan within these limits at this port, which printed on an output that failed so, if it did: where it was
-- lost and the connection failed, why; where it was lost at a read and did not fail, that the other end closed it; else the same.
abbrev pub IsEndAt : Attached → Option PortCause → ℕ → Limits → Option Error → Outcome → Type 0
IsEndAt (run.Ended LostByRead) (Some cause) port limits output outcome = outcome ≡ Lost (Port port cause)
IsEndAt (run.Ended LostByRead) None port limits output outcome = outcome ≡ Lost (PortEnded port)
IsEndAt (run.Ended LostByWrite) (Some cause) port limits output outcome = outcome ≡ Lost (Port port cause)
IsEndAt (run.Ended LostByWrite) None port limits output outcome = IsEndWithoutFiles (run.Ended LostByWrite) limits output outcome
IsEndAt how failure port limits output outcome = IsEndWithoutFiles how limits output outcome

abbrev pub IsEndAtPort : AtPort Attached → ℕ → Limits → Option Error → Outcome → Type 0
IsEndAtPort session port limits output outcome = IsEndAt session.how session.failure port limits output outcome

-- what is told of a session whose connection at a port failed so: want of memory alone, or that it was lost, and where
abbrev pub lost_port : PortFault → Outcome
lost_port (port.Port number cause) = Lost (Port number cause)
lost_port port.NoMemory = Session NoMemory

-- as a read fails that waited for as long as it may
abbrev pub is_lateness : ErrorKind → Bool
is_lateness WouldBlock = true
is_lateness _ = false

abbrev pub is_late : Error → Bool
is_late error = is_lateness (error_kind error)

-- where a session was lost whose reads waited for so many milliseconds at most
abbrev pub lost_within : ℕ → Loss → Loss
lost_within milliseconds (Port number (cause.Other error)) = if is_late error then Silent number milliseconds else Port number (cause.Other error)
lost_within milliseconds loss = loss

-- what is told of it
abbrev pub told_within : ℕ → Outcome → Outcome
told_within milliseconds (Lost loss) = Lost (lost_within milliseconds loss)
told_within milliseconds outcome = outcome
