-- Whole captures.
use Rattle.std.proofs.Common.{◌≡◌, ◌∙◌, ℕ, List, [], ◌∷◌, ◌++◌, Option, refl, sym, ap}
use Rattle.jdwp_show.specs.declared.capture_fault.CaptureFault.{CaptureFault}
use Rattle.jdwp_show.specs.declared.transcript.Transcript.{Transcript}
use Rattle.jdwp_show.specs.declared.table.Table.{Table}
use Rattle.jdwp_show.specs.CaptureLines.{lines_after, capture_lines_under}
use Rattle.jdwp_show.specs.Items.{items_after}
use Rattle.jdwp_show.specs.Lines.{capture_of, bad_line}
use Rattle.jdwp_show.specs.Sessions.{first_after, unanswered, bad_or_broken, first_fault_under}
use Rattle.jdwp_show.specs.Transcripts.{Tells}
use Rattle.jdwp_show.proofs.TextLemmas.{grows_as, joined}
use Rattle.jdwp_judge.specs.declared.line_judge.LineJudge.{LineJudge}
use Rattle.jdwp_judge.specs.Judges.{HasFinishedUnder}
use Rattle.jdwp_judge.specs.LineJudges.{told_of, HasHeardLine}
use Rattle.jdwp_judge.specs.Told.{told_under, whole_by, whole_fault_under}

-- of no pieces nothing is told
pub told_nothing : (table : Table) → told_under table [] ≡ []
unfolding items_after first_after unanswered lines_after
told_nothing table = refl

-- one line more
pub told_more : (table : Table) (judge : LineJudge) (lines : List (List ℕ)) (line : List ℕ) (old mid new : Transcript) → Tells old (told_of table lines) mid → HasHeardLine table judge lines line mid new → Tells old (told_of table (lines ++ line ∷ [])) new
told_more table judge lines line old mid new t h = grows_as (sym h.told_is) (joined t h.appended)

-- ---- the end

pub fault_judged : (table : Table) (text : List ℕ) (bad : Option ℕ) (fault : Option (ℕ × CaptureFault)) (old new : Transcript) → bad ≡ bad_line text → HasFinishedUnder table (capture_of text) bad fault old new → fault ≡ first_fault_under table text
fault_judged table text bad fault old new is h = h.fault_is ∙ ap (λ (b : Option ℕ). bad_or_broken b (whole_fault_under table (capture_of text))) is

pub lines_judged : (table : Table) (text : List ℕ) (bad : Option ℕ) (fault : Option (ℕ × CaptureFault)) (old mid new : Transcript) → bad ≡ bad_line text → Tells old (told_under table (capture_of text)) mid → HasFinishedUnder table (capture_of text) bad fault mid new → Tells old (capture_lines_under table text) new
lines_judged table text bad fault old mid new is t h =
    grows_as (sym h.whole_is ∙ ap (λ (o : Option (ℕ × CaptureFault)). whole_by table o (capture_of text)) (fault_judged table text bad fault mid new is h)) (joined t h.appended)
