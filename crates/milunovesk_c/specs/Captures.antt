-- How captures are judged, in numbers.
use Rattle.std.specs.Prelude.{◌≡◌, ◌⊎◌, ℕ, true, false, List, Option, Some, None}
use Rattle.std.specs.Str.{IsUtf8}
use Rattle.jdwp_show.specs.CaptureLines.{capture_lines}
use Rattle.jdwp_show.specs.Sessions.{first_fault, verdict}
use Rattle.jdwp_show.specs.declared.capture_fault.CaptureFault.{CaptureFault}
use Rattle.jdwp_show.specs.declared.verdict.Verdict.{Verdict}
use Rattle.jdwp_show.specs.declared.verdict.Verdict.TheVariants.{Yes, No}
use Rattle.jdwp_show.specs.FaultNumbers.{number_to_print}
use Rattle.milunovesk_c.specs.declared.judged.Judged.{Judged}
use Rattle.milunovesk_c.specs.Numbers.{DONE, NO_MEMORY, NOT_UTF8}
use Rattle.milunovesk_c.specs.Telling.{IsCopied}

abbrev pub sound : Judged
sound = record { yes = true; fault = 0; line = 0 }

-- by the number that programs print, and the line in which the fault's last byte stands
abbrev pub faulty : ℕ → CaptureFault → Judged
faulty line fault = record { yes = false; fault = number_to_print fault; line = line }

abbrev pub judged : Verdict → Judged
judged Yes = sound
judged (No line fault) = faulty line fault

abbrev pub judged_by : Option (ℕ × CaptureFault) → Judged
judged_by None = sound
judged_by (Some at) = faulty at.0 at.1

-- where nothing was judged
abbrev pub unjudged : Judged
unjudged = record { yes = false; fault = 0; line = 0 }

-- ---- what calls answer

-- A capture is judged; or the bytes are no UTF-8, or memory was refused, and then nothing is judged.
abbrev pub JudgesAs : List ℕ → ℕ → Judged → Type 0
JudgesAs text result out =
    ((result ≡ DONE) × IsUtf8 text × (out ≡ judged (verdict text)))
    ⊎ (((result ≡ NO_MEMORY) × IsUtf8 text × (out ≡ unjudged)) ⊎ ((result ≡ NOT_UTF8) × (IsUtf8 text → ⊥) × (out ≡ unjudged)))

-- The lines of a capture are handed out, and it is judged; or neither is done.
abbrev pub ShowsAs : List ℕ → ℕ → List ℕ → List ℕ → ℕ → Judged → Type 0
ShowsAs text result old new needed out =
    (IsCopied (capture_lines text) result old new needed × IsUtf8 text × (out ≡ judged_by (first_fault text)))
    ⊎ ((((result ≡ NO_MEMORY) × IsUtf8 text) ⊎ ((result ≡ NOT_UTF8) × (IsUtf8 text → ⊥))) × (new ≡ old) × (needed ≡ 0) × (out ≡ unjudged))
