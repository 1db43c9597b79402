-- What one side of a connection sent, in segments (RFC 9293, 3.4).
use Rattle.std.specs.Prelude.{◌≡◌, ◌<◌, ◌+◌, ◌^◌, ℕ, zero, suc, List, [], ◌∷◌, length, slice_index_or}
use Rattle.jdwp_recording.specs.declared.packets.Segment.{Segment}
use Rattle.jdwp_recording.specs.SequenceNumbers.{number_at, AreNear}
use Rattle.jdwp_recording.specs.Streams.{Part, IsAssembled}

-- the data of a segment, from this place of the stream on
abbrev pub data_at : ℕ → Segment → Part
data_at place segment = record { place = place; bytes = segment.payload.now }

-- A segment stands at this place of a stream whose first byte has the sequence number `first`, less than 2^31 away from the one before it.
pub record StandsAt (first before place : ℕ) (segment : Segment) : Type 0 where
  pub number : segment.sequence ≡ number_at first place
  pub near : AreNear before place
  pub fits : place + length segment.payload.now < 2 ^ 64

-- the place of the segment before the one of this index, that of the stream's first byte before all
abbrev pub place_before : (ℕ → ℕ) → ℕ → ℕ
place_before places zero = 0
place_before places (suc k) = places k

-- each segment stands at the place that this function of its index gives
abbrev pub ArePlaced : ℕ → (ℕ → ℕ) → List Segment → Type 0
ArePlaced first places segments = (k : ℕ) (d : Segment) → k < length segments → StandsAt first (place_before places k) (places k) (slice_index_or segments k d)

-- the data of segments, the first of them of this index
abbrev pub parts_from : (ℕ → ℕ) → ℕ → List Segment → List Part
parts_from places k [] = []
parts_from places k (segment ∷ segments) = data_at (places k) segment ∷ parts_from places (suc k) segments

-- These bytes are what the segments give of the stream that they are of, wherever in it they stand.
abbrev pub AreGiven : ℕ → List Segment → List ℕ → Type 0
AreGiven first segments bytes = (places : ℕ → ℕ) → ArePlaced first places segments → IsAssembled (parts_from places 0 segments) bytes
