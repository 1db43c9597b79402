-- What is told of a capture.
use Rattle.std.specs.Prelude.{◌≡◌, ◌≢◌, ℕ, List, [], ◌++◌, Option, Some, None, Result, Ok, Err, IsSome, codes, decimal}
use Rattle.std.specs.IoError.{error_kind}
use Rattle.std.specs.Io.KnownBytes.{Appends, Keeps}
use Rattle.std.specs.declared.io.ErrorKind.TheVariants.{BrokenPipe}
use Rattle.jdwp_show.specs.declared.capture_fault.CaptureFault.{CaptureFault}
use Rattle.jdwp_show.specs.declared.table.Table.{Table}
use Rattle.jdwp_show.specs.declared.table.Table.TheVariants.{Standard}
use Rattle.jdwp_show.specs.CaptureLines.{capture_lines_under}
use Rattle.jdwp_show.specs.FaultNumbers.{number_to_print}
use Rattle.jdwp_show.specs.Sessions.{first_fault_under}
use Rattle.jdwp_program.specs.declared.captures.Told.{Told}
use Rattle.jdwp_program.specs.declared.captures.Told.TheVariants.{Faultless, Faulty, Unread}
use Rattle.jdwp_program.specs.declared.captures.TellFault.{TellFault}
use Rattle.jdwp_program.specs.declared.captures.TellFault.TheVariants.{Output, NoMemory}
use Rattle.jdwp_program.specs.Printing.{AppendsPart}

-- the line and the number of a fault
abbrev pub fault_line : ℕ × CaptureFault → List ℕ
fault_line place = codes "line " ++ decimal place.0 ++ codes ": fault " ++ decimal (number_to_print place.1) ++ codes "\n"

-- what `check` prints
abbrev pub verdict_text : Option (ℕ × CaptureFault) → List ℕ
verdict_text None = codes "yes\n"
verdict_text (Some place) = codes "no: " ++ fault_line place

-- what `show` prints behind the lines
abbrev pub fault_text : Option (ℕ × CaptureFault) → List ℕ
fault_text None = []
fault_text (Some place) = fault_line place

-- what `show` prints of a capture whose data are read by this table
abbrev pub shown_text_under : Table → List ℕ → List ℕ
shown_text_under table capture = capture_lines_under table capture ++ fault_text (first_fault_under table capture)

-- by the standard's
abbrev pub shown_text : List ℕ → List ℕ
shown_text capture = shown_text_under Standard capture

-- What is answered where this text was to be printed of a capture with this first fault or without one, and what the writer held before
-- and holds then: all of the text where it was told; else a beginning, where a write failed; nothing where no memory was left.
abbrev pub Tells : Option (ℕ × CaptureFault) → List ℕ → Option (List ℕ) → Option (List ℕ) → Result Told TellFault → Type 0
Tells fault text old new (Ok Faultless) = (fault ≡ None) × Appends old new text
Tells fault text old new (Ok Faulty) = IsSome fault × Appends old new text
Tells fault text old new (Ok Unread) = AppendsPart old new text
Tells fault text old new (Err (Output error)) = (error_kind error ≢ BrokenPipe) × AppendsPart old new text
Tells fault text old new (Err NoMemory) = Keeps old new
