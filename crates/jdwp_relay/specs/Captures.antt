-- The text of a capture, as its writer holds it.
use Rattle.std.specs.Prelude.{◌≡◌, ℕ, List, ◌++◌, Option, take}
use Rattle.std.specs.Io.KnownBytes.{Appends}
use Rattle.jdwp_relay.specs.declared.capture.Capture.{Capture}

-- to whom the lines are written
abbrev pub writer_of : {W : Type 0} → Capture W → W
writer_of capture = capture.writer

-- the lines that were written since they were last forgotten
abbrev pub fresh_of : {W : Type 0} → Capture W → List ℕ
fresh_of capture = capture.fresh.items

-- so many bytes of the text were appended, and no more
abbrev pub AppendsFirst : Option (List ℕ) → Option (List ℕ) → ℕ → List ℕ → Type 0
AppendsFirst old new count text = Appends old new (take count text)

-- a beginning of the line was appended, or all of it
abbrev pub AppendsPart : Option (List ℕ) → Option (List ℕ) → List ℕ → Type 0
AppendsPart old new line = (count : ℕ) × AppendsFirst old new count line

-- What was added to the capture's text, which was the first and is the second, was added to its fresh lines too.
pub record WritesFresh (text : Option (List ℕ)) (old : List ℕ) (written : Option (List ℕ)) (new : List ℕ) : Type 0 where
  pub added : List ℕ
  pub appends : Appends text written added
  pub grown : new ≡ old ++ added
