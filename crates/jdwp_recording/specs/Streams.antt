-- Parts of a stream of bytes, and what they give of it.
use Rattle.std.specs.Prelude.{◌≡◌, ◌≤◌, ◌+◌, ℕ, List, length, take, drop}
use Rattle.std.specs.List.{All}

-- some bytes of a stream, and the place of the first of them, from 0
pub record Part : Type 0 where
  pub place : ℕ
  pub bytes : List ℕ

-- the place behind its last byte
abbrev pub end_of : Part → ℕ
end_of part = part.place + length part.bytes

-- these bytes stand in the stream from this place on
pub record IsPart (s : List ℕ) (part : Part) : Type 0 where
  pub same : part.bytes ≡ take (length part.bytes) (drop part.place s)
  pub within : end_of part ≤ length s

abbrev pub AreParts : List ℕ → List Part → Type 0
AreParts s parts = All (IsPart s) parts

-- the stream begins with these bytes
pub record IsBeginning (s bytes : List ℕ) : Type 0 where
  pub same : bytes ≡ take (length bytes) s
  pub within : length bytes ≤ length s

-- What the parts give of the stream that they are of: its beginning, whatever stream that is, and all of it up to the first byte that no
-- part has.
pub record IsAssembled (parts : List Part) (bytes : List ℕ) : Type 0 where
  pub beginning : (s : List ℕ) → AreParts s parts → IsBeginning s bytes
  pub complete : All (λ (p : Part). p.place ≤ length bytes → end_of p ≤ length bytes) parts
