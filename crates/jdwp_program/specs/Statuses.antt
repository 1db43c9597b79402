-- The exit status of a run.
use Rattle.std.specs.Prelude.{ℕ}
use Rattle.jdwp_end.specs.declared.pipes.ended.Ended.{Ended}
use Rattle.jdwp_end.specs.declared.pipes.ended.Ended.TheVariants as ended
use Rattle.jdwp_plan_run.specs.Endings.{status_of}
use Rattle.jdwp_record.specs.declared.faults.RecordFault.{RecordFault}
use Rattle.jdwp_record.specs.declared.faults.RecordFault.TheVariants as recorder
use Rattle.jdwp_program.specs.declared.captures.Told.{Told}
use Rattle.jdwp_program.specs.declared.captures.Told.TheVariants.{Faultless, Faulty, Unread}
use Rattle.jdwp_program.specs.declared.fault.Fault.{Fault}
use Rattle.jdwp_program.specs.declared.fault.Fault.TheVariants.{Words, NotText, File, Script, Plan, Written, Recording, Recorder, Port, Output, Closed, NoMemory}
use Rattle.jdwp_program.specs.declared.outcome.Outcome.{Outcome}
use Rattle.jdwp_program.specs.declared.outcome.Outcome.TheVariants.{Session, Lost, RefusedLine, Standstill, Unreached, UsedUp, Planned, Capture, Version}

-- of a session, by how it ended
abbrev pub status_of_end : Ended → ℕ
status_of_end ended.Done = 0
status_of_end (ended.Refused number) = 1
status_of_end ended.LostByRead = 2
status_of_end ended.LostByWrite = 2
status_of_end ended.NoMemory = 3
status_of_end ended.TurnLimit = 4

-- of what was told of a capture
abbrev pub status_of_told : Told → ℕ
status_of_told Faultless = 0
status_of_told Faulty = 1
status_of_told Unread = 2

-- of what the words led to
abbrev pub status_of_outcome : Outcome → ℕ
status_of_outcome (Session e) = status_of_end e
status_of_outcome (Lost loss) = 2
status_of_outcome (RefusedLine line number most) = 1
status_of_outcome (Standstill line awaited) = 4
status_of_outcome (Unreached line awaited) = 5
status_of_outcome (UsedUp line awaited) = 5
status_of_outcome (Planned verdict) = status_of verdict
status_of_outcome (Capture told) = status_of_told told
status_of_outcome (Version told) = status_of_told told

-- where no further session is recorded
abbrev pub status_of_recorder : RecordFault → ℕ
status_of_recorder (recorder.NoFile file error) = 1
status_of_recorder (recorder.Port number cause) = 2
status_of_recorder (recorder.Unwritten file error) = 2
status_of_recorder (recorder.Waiting error) = 2
status_of_recorder recorder.NoMemory = 3

-- where no session began and no capture was told
abbrev pub status_of_fault : Fault → ℕ
status_of_fault (Words text) = 1
status_of_fault NotText = 1
status_of_fault (File path cause) = 1
status_of_fault (Script path fault detail) = 1
status_of_fault (Plan path fault) = 1
status_of_fault (Written path fault) = 1
status_of_fault (Recording path fault) = 1
status_of_fault (Recorder fault) = status_of_recorder fault
status_of_fault (Port number cause) = 2
status_of_fault (Output error) = 2
status_of_fault (Closed error) = 2
status_of_fault NoMemory = 3
