-- What a run of the program leaves on its standard output.
use Rattle.std.specs.Prelude.{◌≡◌, ◌<◌, ◌≤◌, ◌⊎◌, ℕ, List, ◌++◌, Option, Some, None, Result, Ok, Err, MatchResult}
use Rattle.std.specs.Io.KnownBytes.{Appends, Keeps}
use Rattle.std.specs.List.{flat_map}
use Rattle.jdwp_show.specs.declared.capture_fault.CaptureFault.{CaptureFault}
use Rattle.jdwp_show.specs.declared.table.Table.{Table}
use Rattle.jdwp_show.specs.declared.table.Table.TheVariants.{Standard}
use Rattle.jdwp_show.specs.Sessions.{first_fault_under}
use Rattle.jdwp_program.specs.declared.captures.Told.{Told}
use Rattle.jdwp_program.specs.declared.captures.Told.TheVariants.{Faultless, Faulty, Unread}
use Rattle.jdwp_program.specs.declared.captures.TellFault.{TellFault}
use Rattle.jdwp_program.specs.declared.fault.Fault.{Fault}
use Rattle.jdwp_program.specs.declared.outcome.Outcome.{Outcome}
use Rattle.jdwp_program.specs.Captures.{shown_text, shown_text_under, verdict_text}
use Rattle.jdwp_program.specs.Drawings.{IsDrawing}
use Rattle.jdwp_program.specs.Files.{fault_of_telling}
use Rattle.jdwp_program.specs.Listening.{listening_line}
use Rattle.jdwp_program.specs.Printing.{AppendsPart, AppendsSome}
use Rattle.jdwp_program.specs.Version.{version_line}
use Rattle.jdwp_program.specs.Statuses.{status_of_told, status_of_fault, status_of_outcome}

-- What is printed of a capture whose data are read by this table: it in words, or the verdict, or a drawing of it, which is by the standard's.
abbrev pub IsTextOf : Table → List ℕ → List ℕ → Type 0
IsTextOf table capture text =
    (text ≡ shown_text_under table capture) ⊎ ((text ≡ verdict_text (first_fault_under table capture)) ⊎ ((table ≡ Standard) × (from : ℕ) × (count : ℕ) × IsDrawing capture from count text))

-- the status of a capture that was told whole
abbrev pub status_of_capture : Option (ℕ × CaptureFault) → ℕ
status_of_capture None = 0
status_of_capture (Some fault) = 1

-- a run with this status told a capture: all of it, and the status is 0 where the capture has no fault and else 1; or a beginning, and 2
abbrev pub LeavesCapture : ℕ → Option (List ℕ) → Option (List ℕ) → Type 0
LeavesCapture status old new =
    (table : Table) × (capture : List ℕ) × (text : List ℕ) × IsTextOf table capture text × (((status ≡ status_of_capture (first_fault_under table capture)) × Appends old new text) ⊎ ((status ≡ 2) × AppendsPart old new text))

-- a run with this status told what a recording gave of a capture, it or what is printed of it: all of that, and the status is 1 where the
-- recording or the capture has a fault; or a beginning, and 2
abbrev pub LeavesRecorded : ℕ → Option (List ℕ) → Option (List ℕ) → Type 0
LeavesRecorded status old new =
    (table : Table) × (capture : List ℕ) × (text : List ℕ) × (IsTextOf table capture text ⊎ (text ≡ capture)) × (((status ≤ 1) × Appends old new text) ⊎ ((status ≡ 2) × AppendsPart old new text))

-- a run with this status told a beginning of a capture in words while it was read: a read of it failed, or no memory was left
abbrev pub LeavesBegun : ℕ → Option (List ℕ) → Option (List ℕ) → Type 0
LeavesBegun status old new = (table : Table) × (capture : List ℕ) × (0 < status) × AppendsSome old new (shown_text_under table capture)

-- a run with this status told the program's version: all of it, and the status is 0, or a beginning, and 2
abbrev pub LeavesVersion : ℕ → Option (List ℕ) → Option (List ℕ) → Type 0
LeavesVersion status old new = ((status ≡ 0) × Appends old new version_line) ⊎ ((status ≡ 2) × AppendsPart old new version_line)

-- a run with this status told this text: all of it; or a beginning, and the status is that of a fault of the output, of a session or of memory
abbrev pub LeavesText : ℕ → List ℕ → Option (List ℕ) → Option (List ℕ) → Type 0
LeavesText status text old new = Appends old new text ⊎ ((1 < status) × AppendsSome old new text)

-- these captures in words, one behind the other
abbrev pub shown_texts : List (List ℕ) → List ℕ
shown_texts captures = flat_map shown_text captures

-- a run with this status told captures of sessions in words; or a beginning
abbrev pub LeavesShown : ℕ → Option (List ℕ) → Option (List ℕ) → Type 0
LeavesShown status old new = (captures : List (List ℕ)) × LeavesText status (shown_texts captures) old new

-- a run with this status told where debuggers are awaited, and behind that line the captures of sessions in words, or none; or a beginning
abbrev pub LeavesListening : ℕ → Option (List ℕ) → Option (List ℕ) → Type 0
LeavesListening status old new = (port : ℕ) × (captures : List (List ℕ)) × LeavesText status (listening_line port ++ shown_texts captures) old new

-- what a run with this status leaves: nothing, what it told of a capture or a recording, the program's version, the line of a port and what came
-- behind it, or a beginning of a capture in words
abbrev pub Leaves : ℕ → Option (List ℕ) → Option (List ℕ) → Type 0
Leaves status old new =
    Keeps old new ⊎ (LeavesCapture status old new ⊎ (LeavesVersion status old new ⊎ (LeavesListening status old new ⊎ (LeavesRecorded status old new ⊎ LeavesBegun status old new))))

-- the same by what was answered of a capture or the version
abbrev pub LeavesTold : Result Told TellFault → Option (List ℕ) → Option (List ℕ) → Type 0
LeavesTold result old new = MatchResult result (λ told. Leaves (status_of_told told) old new) (λ fault. Leaves (status_of_fault (fault_of_telling fault)) old new)

-- by what was answered of the line of a port: where all of it was printed, whatever the status comes to
abbrev pub LeavesListened : Result (Unit {0}) TellFault → Option (List ℕ) → Option (List ℕ) → Type 0
LeavesListened result old new = MatchResult result (λ done. (status : ℕ) → Leaves status old new) (λ fault. Leaves (status_of_fault (fault_of_telling fault)) old new)

-- by what was answered of the capture of a file
abbrev pub LeavesCaptureTold : Result Told Fault → Option (List ℕ) → Option (List ℕ) → Type 0
LeavesCaptureTold result old new = MatchResult result (λ told. Leaves (status_of_told told) old new) (λ fault. Leaves (status_of_fault fault) old new)

-- by what the words led to
abbrev pub LeavesOutcome : Result Outcome Fault → Option (List ℕ) → Option (List ℕ) → Type 0
LeavesOutcome result old new = MatchResult result (λ outcome. Leaves (status_of_outcome outcome) old new) (λ fault. Leaves (status_of_fault fault) old new)

-- by what showing one session led to, while it went on: the session in words; or a beginning
abbrev pub LeavesLive : Result Told Fault → Option (List ℕ) → Option (List ℕ) → Type 0
LeavesLive (Ok Faultless) old new = (capture : List ℕ) × Appends old new (shown_text capture)
LeavesLive (Ok Faulty) old new = (capture : List ℕ) × Appends old new (shown_text capture)
LeavesLive (Ok Unread) old new = LeavesShown (status_of_told Unread) old new
LeavesLive (Err fault) old new = LeavesShown (status_of_fault fault) old new

-- by what one session of a recorder led to: captures in words, where more are to be recorded; else by what the words led to
abbrev pub LeavesSession : Result (Option Outcome) Fault → Option (List ℕ) → Option (List ℕ) → Type 0
LeavesSession (Ok None) old new = (captures : List (List ℕ)) × Appends old new (shown_texts captures)
LeavesSession (Ok (Some outcome)) old new = LeavesShown (status_of_outcome outcome) old new
LeavesSession (Err fault) old new = LeavesShown (status_of_fault fault) old new

-- by what all sessions of a recorder led to
abbrev pub LeavesSessions : Result Outcome Fault → Option (List ℕ) → Option (List ℕ) → Type 0
LeavesSessions result old new = MatchResult result (λ outcome. LeavesShown (status_of_outcome outcome) old new) (λ fault. LeavesShown (status_of_fault fault) old new)
