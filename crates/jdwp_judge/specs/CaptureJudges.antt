-- What a judge has heard of the text of a capture, cut anywhere.
use Rattle.std.specs.Prelude.{◌≡◌, ℕ, ◌==◌, List, [], ◌∷◌, ◌++◌, Option, false, if◌then◌else◌}
use Rattle.std.specs.List.{All}
use Rattle.std.specs.Str.Lines.{strip_carriage_return}
use Rattle.jdwp_judge.specs.declared.capture_judge.CaptureJudge.{CaptureJudge}
use Rattle.jdwp_judge.specs.LineJudges.{HasHeardLines, told_of, fault_among}
use Rattle.jdwp_show.specs.declared.capture_fault.CaptureFault.{CaptureFault}
use Rattle.jdwp_show.specs.declared.table.Table.{Table}
use Rattle.jdwp_show.specs.declared.transcript.Transcript.{Transcript}
use Rattle.jdwp_show.specs.CaptureLines.{capture_lines_under}
use Rattle.jdwp_show.specs.Sessions.{first_fault_under}
use Rattle.jdwp_show.specs.Transcripts.{Tells}

-- no byte of these is a newline
abbrev pub HasNoNewline : List ℕ → Type 0
HasNoNewline bytes = All (λ byte. (byte == 10) ≡ false) bytes

-- the lines that a newline ends, where the first of them was begun before these bytes
unfoldable pub finished_after : List ℕ → List ℕ → List (List ℕ)
finished_after line [] = []
finished_after line (byte ∷ bytes) = if byte == 10 then strip_carriage_return line ∷ finished_after [] bytes else finished_after (line ++ byte ∷ []) bytes

-- the line that is begun behind the last newline
unfoldable pub unfinished_after : List ℕ → List ℕ → List ℕ
unfinished_after line [] = line
unfinished_after line (byte ∷ bytes) = if byte == 10 then unfinished_after [] bytes else unfinished_after (line ++ byte ∷ []) bytes

-- of a text that goes on
abbrev pub finished : List ℕ → List (List ℕ)
finished text = finished_after [] text

abbrev pub unfinished : List ℕ → List ℕ
unfinished text = unfinished_after [] text

-- the lines of `show` that can be told of a capture that begins with this text
abbrev pub told_text : Table → List ℕ → List ℕ
told_text table text = told_of table (finished text)

-- the first fault of its lines, as far as it can be told
abbrev pub fault_so_far : Table → List ℕ → Option (ℕ × CaptureFault)
fault_so_far table text = fault_among table (finished text)

-- The judge has heard this text, from the beginning of a capture on, and told what can be told of its lines.
pub record HasHeardText (table : Table) (judge : CaptureJudge) (text : List ℕ) : Type 0 where
  pub lines : HasHeardLines table judge.lines (finished text)
  pub unfinished_is : judge.unfinished.items ≡ unfinished text

-- it has heard these bytes more, and told what can be told now
pub record HasHeardMore (table : Table) (judge : CaptureJudge) (text bytes : List ℕ) (old new : Transcript) : Type 0 where
  pub heard : HasHeardText table judge (text ++ bytes)
  pub added : List ℕ
  pub appended : Tells old added new
  pub told_is : told_text table (text ++ bytes) ≡ told_text table text ++ added

-- A capture has ended: this is its first fault, and what was not told yet was told.
pub record HasJudged (table : Table) (text : List ℕ) (fault : Option (ℕ × CaptureFault)) (old new : Transcript) : Type 0 where
  pub fault_is : fault ≡ first_fault_under table text
  pub added : List ℕ
  pub appended : Tells old added new
  pub whole_is : capture_lines_under table text ≡ told_text table text ++ added
