use Rattle.std.proofs.Common.{◌≡◌, ◌++◌, ℕ, List, length}
use Rattle.jdwp_show.specs.declared.table.Table.{Table}
use Rattle.jdwp_judge.specs.CaptureJudges.{HasHeardText, HasHeardMore}
use Rattle.jdwp_judge.proofs.capture_judge.CaptureJudge.hear.Given as goal

abbrev pub invariant-loop-line : goal.invariant-loop-line
invariant-loop-line l = (front : List ℕ) × (l.bytes ≡ front ++ l.rest) × ((table : Table) (text : List ℕ) → HasHeardText table l.fn.self text → HasHeardMore table l.self text front l.fn.lines l.lines)

abbrev pub decreases-loop-line : goal.decreases-loop-line
decreases-loop-line l = length l.rest
