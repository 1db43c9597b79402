-- What is told of a capture while it is read.
use Rattle.std.specs.Prelude.{◌≡◌, ℕ, List, ◌++◌, Bool, true, false, Option, None, Result, Ok, Err, IsSome, OnOk, ⊤}
use Rattle.std.specs.Io.KnownBytes.{Appends, Consumes, IsAtEnd, Keeps}
use Rattle.jdwp_judge.specs.CaptureJudges.{told_text, HasHeardText}
use Rattle.jdwp_judge.specs.declared.capture_judge.CaptureJudge.{CaptureJudge}
use Rattle.jdwp_show.specs.declared.capture_fault.CaptureFault.{CaptureFault}
use Rattle.jdwp_show.specs.declared.table.Table.{Table}
use Rattle.jdwp_show.specs.Sessions.{first_fault_under}
use Rattle.jdwp_program.specs.declared.captures.TellFault.TheVariants as telling
use Rattle.jdwp_program.specs.declared.captures.Told.{Told}
use Rattle.jdwp_program.specs.declared.captures.Told.TheVariants.{Faultless, Faulty, Unread}
use Rattle.jdwp_program.specs.declared.streaming.StreamFault.{StreamFault}
use Rattle.jdwp_program.specs.declared.streaming.StreamFault.TheVariants.{Input, Output, NoMemory}
use Rattle.jdwp_program.specs.Captures.{Tells, shown_text_under, verdict_text}
use Rattle.jdwp_program.specs.Printing.{AppendsPart, AppendsSome}

-- What is answered where a capture was shown by this table while it was read, and this is what was read of it: all that is to be printed of
-- it where it was told; all that can be told of what was read, where a read failed; else a beginning of what is to be printed.
abbrev pub ShowsRead : Table → List ℕ → Option (List ℕ) → Option (List ℕ) → Result Told StreamFault → Type 0
ShowsRead table capture old new (Ok Faultless) = (first_fault_under table capture ≡ None) × Appends old new (shown_text_under table capture)
ShowsRead table capture old new (Ok Faulty) = IsSome (first_fault_under table capture) × Appends old new (shown_text_under table capture)
ShowsRead table capture old new (Ok Unread) = AppendsPart old new (shown_text_under table capture)
ShowsRead table capture old new (Err (Input error)) = Appends old new (told_text table capture)
ShowsRead table capture old new (Err (Output error)) = AppendsPart old new (shown_text_under table capture)
ShowsRead table capture old new (Err NoMemory) = AppendsSome old new (shown_text_under table capture)

-- The same where it was judged: before all is read nothing is printed.
abbrev pub JudgesRead : Table → List ℕ → Option (List ℕ) → Option (List ℕ) → Result Told StreamFault → Type 0
JudgesRead table capture old new (Ok Faultless) = (first_fault_under table capture ≡ None) × Appends old new (verdict_text (first_fault_under table capture))
JudgesRead table capture old new (Ok Faulty) = IsSome (first_fault_under table capture) × Appends old new (verdict_text (first_fault_under table capture))
JudgesRead table capture old new (Ok Unread) = AppendsPart old new (verdict_text (first_fault_under table capture))
JudgesRead table capture old new (Err (Input error)) = Keeps old new
JudgesRead table capture old new (Err (Output error)) = AppendsPart old new (verdict_text (first_fault_under table capture))
JudgesRead table capture old new (Err NoMemory) = Keeps old new

-- where it was told, all was read
abbrev pub IsReadToEnd : Option (List ℕ) → Result Told StreamFault → Type 0
IsReadToEnd left (Ok Faultless) = IsAtEnd left
IsReadToEnd left (Ok Faulty) = IsAtEnd left
IsReadToEnd left (Ok Unread) = ⊤
IsReadToEnd left (Err fault) = ⊤

-- by what a reader had left before and has left then, where these bytes were read already
abbrev pub ShowsStream : Table → List ℕ → Option (List ℕ) → Option (List ℕ) → Option (List ℕ) → Option (List ℕ) → Result Told StreamFault → Type 0
ShowsStream table begun before after old new result = (read : List ℕ) × Consumes before after read × IsReadToEnd after result × ShowsRead table (begun ++ read) old new result

abbrev pub JudgesStream : Table → List ℕ → Option (List ℕ) → Option (List ℕ) → Option (List ℕ) → Option (List ℕ) → Result Told StreamFault → Type 0
JudgesStream table begun before after old new result = (read : List ℕ) × Consumes before after read × IsReadToEnd after result × JudgesRead table (begun ++ read) old new result

-- the same where what can be told of this beginning was printed behind what was there at the start
abbrev pub ShowsOnward : Table → List ℕ → Option (List ℕ) → Option (List ℕ) → Option (List ℕ) → Option (List ℕ) → Result Told StreamFault → Type 0
ShowsOnward table text before after old new result =
    (read : List ℕ) × Consumes before after read × IsReadToEnd after result × ((start : Option (List ℕ)) → Appends start old (told_text table text) → ShowsRead table (text ++ read) start new result)

abbrev pub JudgesOnward : Table → List ℕ → Option (List ℕ) → Option (List ℕ) → Option (List ℕ) → Option (List ℕ) → Result Told StreamFault → Type 0
JudgesOnward table text before after old new result = (read : List ℕ) × Consumes before after read × IsReadToEnd after result × JudgesRead table (text ++ read) old new result

-- nothing more is told
abbrev pub is_stopped : Result Told StreamFault → Bool
is_stopped (Ok Faultless) = false
is_stopped (Ok Faulty) = false
is_stopped (Ok Unread) = true
is_stopped (Err fault) = true

-- ---- one step

-- this text was to be printed, as where a capture is told that was read before
abbrev pub Prints : Option (ℕ × CaptureFault) → List ℕ → Option (List ℕ) → Option (List ℕ) → Result Told StreamFault → Type 0
Prints fault text old new (Ok told) = Tells fault text old new (Ok told)
Prints fault text old new (Err (Input error)) = ⊥
Prints fault text old new (Err (Output error)) = Tells fault text old new (Err (telling.Output error))
Prints fault text old new (Err NoMemory) = Tells fault text old new (Err telling.NoMemory)

-- these bytes more were read: what can be told now was to be printed
abbrev pub ShowsMore : Table → List ℕ → List ℕ → CaptureJudge → Option (List ℕ) → Option (List ℕ) → Result Told StreamFault → Type 0
ShowsMore table text bytes judge old new result = OnOk result (HasHeardText table judge (text ++ bytes)) × (added : List ℕ) × (told_text table (text ++ bytes) ≡ told_text table text ++ added) × Prints None added old new result

-- all was read: what was not told yet was to be printed
abbrev pub ShowsRest : Table → List ℕ → Option (List ℕ) → Option (List ℕ) → Result Told StreamFault → Type 0
ShowsRest table text old new result = (rest : List ℕ) × (shown_text_under table text ≡ told_text table text ++ rest) × Prints (first_fault_under table text) rest old new result

abbrev pub JudgesRest : Table → List ℕ → Option (List ℕ) → Option (List ℕ) → Result Told StreamFault → Type 0
JudgesRest table text old new result = Prints (first_fault_under table text) (verdict_text (first_fault_under table text)) old new result
