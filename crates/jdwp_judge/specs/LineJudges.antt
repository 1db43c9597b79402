-- What a judge has heard of a capture that is read line by line.
use Rattle.std.specs.Prelude.{◌≡◌, ℕ, ◌+◌, ◌==◌, List, [], ◌∷◌, ◌++◌, length, Option, Some, None, if◌then◌else◌}
use Rattle.std.specs.List.{filter_map, take_while}
use Rattle.jdwp_judge.specs.declared.line_judge.LineJudge.{LineJudge}
use Rattle.jdwp_judge.specs.Judges.{HasHeardUnder}
use Rattle.jdwp_judge.specs.Told.{told_under, told_fault_under}
use Rattle.jdwp_show.specs.declared.capture_fault.CaptureFault.{CaptureFault}
use Rattle.jdwp_show.specs.declared.table.Table.{Table}
use Rattle.jdwp_show.specs.declared.transcript.Transcript.{Transcript}
use Rattle.jdwp_show.specs.Lines.{Line, line_of, reads}
use Rattle.jdwp_show.specs.Sessions.{bad_or_broken}
use Rattle.jdwp_show.specs.Transcripts.{Tells}

-- ---- of the lines that were read so far

-- what those before the first that does not read say
abbrev pub pieces_in : List (List ℕ) → List Line
pieces_in lines = filter_map line_of (take_while reads lines)

-- the number, from 1, of the first that does not read
abbrev pub bad_among : List (List ℕ) → Option ℕ
bad_among lines = if length (take_while reads lines) == length lines then None else Some (length (take_while reads lines) + 1)

-- the lines of `show` that can be told
abbrev pub told_of : Table → List (List ℕ) → List ℕ
told_of table lines = told_under table (pieces_in lines)

-- the first fault of these lines: one that does not read, and else the fault that can be told
abbrev pub fault_among : Table → List (List ℕ) → Option (ℕ × CaptureFault)
fault_among table lines = bad_or_broken (bad_among lines) (told_fault_under table (pieces_in lines))

-- ---- the judge

-- The judge has heard these lines of a capture, from its first one on, and told what can be told of them.
pub record HasHeardLines (table : Table) (judge : LineJudge) (lines : List (List ℕ)) : Type 0 where
  pub heard : HasHeardUnder table judge.judge (pieces_in lines)
  pub bad_is : judge.bad_line ≡ bad_among lines
  pub counted : judge.bad_line ≡ None → judge.count ≡ length lines

-- it has heard one line more, and told what can be told now
pub record HasHeardLine (table : Table) (judge : LineJudge) (lines : List (List ℕ)) (line : List ℕ) (old new : Transcript) : Type 0 where
  pub heard : HasHeardLines table judge (lines ++ line ∷ [])
  pub added : List ℕ
  pub appended : Tells old added new
  pub told_is : told_of table (lines ++ line ∷ []) ≡ told_of table lines ++ added
