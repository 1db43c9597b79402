-- Files that can't be used.
use Rattle.std.specs.Prelude.{◌≡◌, ◌≢◌, ◌||◌, ℕ, List, [], ◌∷◌, Bool, take, if◌then◌else◌}
use Rattle.std.specs.Str.{IsUtf8, IsValidUpTo, bytes_eq}
use Rattle.std.specs.Borrow.{Bor}
use Rattle.std.specs.IoError.{error_kind}
use Rattle.std.specs.declared.io.Error.{Error}
use Rattle.std.specs.declared.io.ErrorKind.TheVariants as kind
use Rattle.jdwp_script.specs.declared.detail.Detail.{Detail}
use Rattle.jdwp_script.specs.declared.fault.ScriptFault.{ScriptFault}
use Rattle.jdwp_script.specs.declared.fault.ScriptFault.TheVariants as script
use Rattle.jdwp_attach.specs.declared.plans.plan_fault.PlanFault.{PlanFault}
use Rattle.jdwp_attach.specs.declared.plans.plan_fault.PlanFault.TheVariants as plan
use Rattle.jdwp_port.specs.declared.faults.PortFault.{PortFault}
use Rattle.jdwp_port.specs.declared.faults.PortFault.TheVariants as port
use Rattle.jdwp_record.specs.declared.faults.RecordFault.{RecordFault}
use Rattle.jdwp_record.specs.declared.faults.RecordFault.TheVariants as recorder
use Rattle.jdwp_recording.specs.declared.recording_fault.RecordingFault.{RecordingFault}
use Rattle.jdwp_recording.specs.declared.recording_fault.RecordingFault.TheVariants as recording
use Rattle.jdwp_plan.specs.declared.plan_fault.PlanFault.{PlanFault as WrittenFault}
use Rattle.jdwp_plan.specs.declared.plan_fault.PlanFault.TheVariants as written
use Rattle.jdwp_program.specs.declared.captures.TellFault.{TellFault}
use Rattle.jdwp_program.specs.declared.captures.TellFault.TheVariants as telling
use Rattle.jdwp_program.specs.declared.fault.Fault.{Fault}
use Rattle.jdwp_program.specs.declared.fault.Fault.TheVariants as fault
use Rattle.jdwp_program.specs.declared.fault.FileCause.{FileCause}
use Rattle.jdwp_program.specs.declared.fault.FileCause.TheVariants.{Absent, NotAllowed, Folder, NotUtf8, ByteOrderMark, AlsoRead, AlsoWritten, NoCases, Other}

-- the cause that this error of the system is
abbrev pub IsCauseOf : Error → FileCause → Type 0
IsCauseOf error Absent = error_kind error ≡ kind.NotFound
IsCauseOf error NotAllowed = error_kind error ≡ kind.PermissionDenied
IsCauseOf error Folder = error_kind error ≡ kind.IsADirectory
IsCauseOf error (NotUtf8 place) = ⊥
IsCauseOf error ByteOrderMark = ⊥
IsCauseOf error AlsoRead = ⊥
IsCauseOf error AlsoWritten = ⊥
IsCauseOf error NoCases = ⊥
IsCauseOf error (Other other) = (other ≡ error) × (error_kind error ≢ kind.NotFound) × (error_kind error ≢ kind.PermissionDenied) × (error_kind error ≢ kind.IsADirectory)

-- what is told of a file of this name at this error: want of memory alone, or the file and why it can't be used
abbrev pub IsUnusable : Bor (List ℕ) → Error → Fault → Type 0
IsUnusable path error fault.NoMemory = error_kind error ≡ kind.OutOfMemory
IsUnusable path error (fault.File named cause) = (named ≡ path) × (error_kind error ≢ kind.OutOfMemory) × IsCauseOf error cause
IsUnusable path error other = ⊥

-- the bytes are not UTF-8, and this says at which of them no character begins
abbrev pub IsNotText : List ℕ → FileCause → Type 0
IsNotText bytes (NotUtf8 place) = (IsUtf8 bytes → ⊥) × IsValidUpTo bytes place
IsNotText bytes other = ⊥

-- what is told where a capture couldn't be told
abbrev pub fault_of_telling : TellFault → Fault
fault_of_telling (telling.Output error) = fault.Output error
fault_of_telling telling.NoMemory = fault.NoMemory

-- what is told of a port that can't be used
abbrev pub fault_of_port : PortFault → Fault
fault_of_port (port.Port number cause) = fault.Port number cause
fault_of_port port.NoMemory = fault.NoMemory

-- what is told where no further session is recorded: a port that can't be used and want of memory alone, or the fault
abbrev pub fault_of_recorder : RecordFault → Fault
fault_of_recorder (recorder.Port number cause) = fault.Port number cause
fault_of_recorder recorder.NoMemory = fault.NoMemory
fault_of_recorder other = fault.Recorder other

-- what is told of the fault of the script of a file of this name, with what is known beside it: want of memory alone, or all of it
abbrev pub fault_of_script : Bor (List ℕ) → ScriptFault → Detail → Fault
fault_of_script path script.NoMemory detail = fault.NoMemory
fault_of_script path other detail = fault.Script path other detail

-- what is told of the fault of the plan in words of a file of this name: want of memory alone, or the fault
abbrev pub fault_of_written : Bor (List ℕ) → WrittenFault → Fault
fault_of_written path written.NoMemory = fault.NoMemory
fault_of_written path other = fault.Written path other

-- what is told of the fault of a recording in a file of this name: want of memory alone, or the fault
abbrev pub fault_of_recording : Bor (List ℕ) → RecordingFault → Fault
fault_of_recording path recording.NoMemory = fault.NoMemory
fault_of_recording path other = fault.Recording path other

-- The first four bytes of a recording of the network: of pcap, written by a machine of either order of bytes, with times in microseconds or in
-- nanoseconds, and of pcapng.
abbrev pub begins_as_recording : List ℕ → Bool
begins_as_recording bytes =
    bytes_eq (take 4 bytes) (0xd4 ∷ 0xc3 ∷ 0xb2 ∷ 0xa1 ∷ [])
    || bytes_eq (take 4 bytes) (0xa1 ∷ 0xb2 ∷ 0xc3 ∷ 0xd4 ∷ [])
    || bytes_eq (take 4 bytes) (0x4d ∷ 0x3c ∷ 0xb2 ∷ 0xa1 ∷ [])
    || bytes_eq (take 4 bytes) (0xa1 ∷ 0xb2 ∷ 0x3c ∷ 0x4d ∷ [])
    || bytes_eq (take 4 bytes) (0x0a ∷ 0x0d ∷ 0x0d ∷ 0x0a ∷ [])

-- a text begins with U+FEFF, as EF BB BF in UTF-8
abbrev pub begins_with_mark : List ℕ → Bool
begins_with_mark text = bytes_eq (take 3 text) (0xef ∷ 0xbb ∷ 0xbf ∷ [])

-- what is told of the fault of the plan of a file of this name: want of memory alone, that a byte order mark stands in front, or the fault
abbrev pub fault_of_plan : Bor (List ℕ) → List ℕ → PlanFault → Fault
fault_of_plan path text plan.NoMemory = fault.NoMemory
fault_of_plan path text (plan.Line number why) = if begins_with_mark text then fault.File path ByteOrderMark else fault.Plan path (plan.Line number why)
