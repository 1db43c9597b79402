-- Lines of `show`, as they grow.
use Rattle.std.specs.Prelude.{◌≡◌, List, ℕ, false}
use Rattle.std.specs.String.{string_bytes}
use Rattle.jdwp_show.specs.declared.transcript.Transcript.{Transcript}
use Rattle.jdwp_show.specs.Telling.{Grows}

-- what it says
abbrev pub said : Transcript → List ℕ
said transcript = string_bytes transcript.lines.string

-- this was appended, unless an allocation was refused or no lines are kept
abbrev pub Tells : Transcript → List ℕ → Transcript → Type 0
Tells old more new = Grows old.lines more new.lines

-- no allocation was refused, and this is all that it says
abbrev pub IsWhole : Transcript → List ℕ → Type 0
IsWhole transcript lines = (transcript.lines.refused ≡ false) × (lines ≡ said transcript)
