-- Bytes that go from one end straight to the other.
use Rattle.std.specs.Prelude.{ℕ, List, length, min, take}
use Rattle.jdwp_end.specs.Ends.{End, room_of}

-- the first bytes that wait at an end, at most so many, and as many as the other end has room for
abbrev pub moved : ℕ → End → End → List ℕ
moved most from to = take (min (min most (room_of to)) (length from.outgoing)) from.outgoing
