-- What is left in a writer by a text that may not have been taken whole.
use Rattle.std.specs.Prelude.{ℕ, List, Option, ◌<◌, length, take}
use Rattle.std.specs.Io.KnownBytes.{Appends}

-- so many bytes of the text were appended, and no more
abbrev pub AppendsFirst : Option (List ℕ) → Option (List ℕ) → ℕ → List ℕ → Type 0
AppendsFirst old new count text = Appends old new (take count text)

-- a beginning of the text was appended, and not all of it
abbrev pub AppendsPart : Option (List ℕ) → Option (List ℕ) → List ℕ → Type 0
AppendsPart old new text = (count : ℕ) × (count < length text) × AppendsFirst old new count text

-- a beginning of the text was appended, maybe all of it
abbrev pub AppendsSome : Option (List ℕ) → Option (List ℕ) → List ℕ → Type 0
AppendsSome old new text = (count : ℕ) × AppendsFirst old new count text
