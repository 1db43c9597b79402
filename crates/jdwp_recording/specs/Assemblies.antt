-- What is known of a stream, and what is kept behind a hole.
use Rattle.std.specs.Prelude.{◌≡◌, ◌≤◌, ◌⊎◌, ℕ, List, length, Option, Some}
use Rattle.std.specs.BTreeMap.{get}
use Rattle.std.specs.List.{All}
use Rattle.std.specs.Ordering.{nat_cmp}
use Rattle.jdwp_recording.specs.declared.assembly.Assembly.{Assembly}
use Rattle.jdwp_recording.specs.declared.assembly.Piece.{Piece}
use Rattle.jdwp_recording.specs.Streams.{Part, IsPart, IsBeginning, AreParts, end_of}

abbrev pub part_of : Piece → Part
part_of piece = record { place = piece.place; bytes = piece.bytes.now }

-- what is kept under this place
abbrev pub kept_at : Assembly → ℕ → Option Piece
kept_at assembly place = get nat_cmp assembly.ahead place

-- all of the part is known, or is kept under its place
abbrev pub IsHeld : Assembly → Part → Type 0
IsHeld assembly p = (end_of p ≤ assembly.known) ⊎ ((kept : Piece) × (kept_at assembly p.place ≡ Some kept) × (length p.bytes ≤ length kept.bytes.now))

-- These parts came, and these bytes of the stream are known by them.
pub record Stands (parts : List Part) (bytes : List ℕ) (assembly : Assembly) : Type 0 where
  pub known : assembly.known ≡ length bytes
  pub keyed : (place : ℕ) (kept : Piece) → kept_at assembly place ≡ Some kept → kept.place ≡ place
  pub beginning : (s : List ℕ) → AreParts s parts → IsBeginning s bytes
  pub kept : (s : List ℕ) → AreParts s parts → (place : ℕ) (kept : Piece) → kept_at assembly place ≡ Some kept → IsPart s (part_of kept)
  pub held : All (IsHeld assembly) parts
