-- What is known of the bytes that one side sent.
use Rattle.std.specs.Prelude.{◌≡◌, ℕ, List, length}
use Rattle.std.specs.BTreeMap.{btree_map_len}
use Rattle.jdwp_recording.specs.declared.direction.Direction.{Direction}
use Rattle.jdwp_recording.specs.declared.packets.Segment.{Segment}
use Rattle.jdwp_recording.specs.Assemblies.{Stands}
use Rattle.jdwp_recording.specs.SequenceNumbers.{number_at}
use Rattle.jdwp_recording.specs.Sides.{ArePlaced, parts_from, place_before}

-- how many pieces are kept behind a hole
abbrev pub kept_count : Direction → ℕ
kept_count direction = btree_map_len direction.assembly.ahead

-- These segments came, all of them with data, and these bytes are known by them.
pub record KnowsAt (first : ℕ) (segments : List Segment) (bytes : List ℕ) (direction : Direction) (places : ℕ → ℕ) : Type 0 where
  pub stands : Stands (parts_from places 0 segments) bytes direction.assembly
  pub place : direction.mark.place ≡ place_before places (length segments)
  pub number : direction.mark.sequence ≡ number_at first direction.mark.place

abbrev pub Knows : ℕ → List Segment → List ℕ → Direction → Type 0
Knows first segments bytes direction = (places : ℕ → ℕ) → ArePlaced first places segments → KnowsAt first segments bytes direction places
