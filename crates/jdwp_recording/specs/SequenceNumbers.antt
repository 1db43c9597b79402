-- Sequence numbers (RFC 9293, 3.4 "Sequence Numbers").
use Rattle.std.specs.Prelude.{◌<◌, ◌+◌, ◌%◌, ◌^◌, ℕ}

-- the sequence number of the byte at a place of a stream, counted from 0, whose first byte has this one
abbrev pub number_at : ℕ → ℕ → ℕ
number_at first place = (first + place) % 2 ^ 32

-- two places that lie less than half of all sequence numbers apart
abbrev pub AreNear : ℕ → ℕ → Type 0
AreNear a b = (a < b + 2 ^ 31) × (b < a + 2 ^ 31)
