-- What a source gave, and what a sink took.
use Rattle.std.specs.Prelude.{ℕ, ◌+◌, ◌<◌, ◌≤◌, List, [], ◌∷◌, ◌++◌, take}
use Rattle.jdwp_relay.specs.declared.sides.Came.{Came}
use Rattle.jdwp_relay.specs.declared.sides.Came.TheVariants as came
use Rattle.jdwp_relay.specs.declared.sides.Ending.{Ending}
use Rattle.jdwp_relay.specs.declared.sides.Took.{Took}
use Rattle.jdwp_relay.specs.declared.sides.Took.TheVariants as took

-- bytes: all that was read; endings: how the source ended, each time that it said so; reads: how often it was read
pub record Inflow : Type 0 where
  pub bytes : List ℕ
  pub endings : List Ending
  pub reads : ℕ

-- bytes: all that was taken; endings: those that were handed on, in order; losses: the writes by which the sink was lost; writes: how often
-- it was written to
pub record Outflow : Type 0 where
  pub bytes : List ℕ
  pub endings : List Ending
  pub losses : ℕ
  pub writes : ℕ

-- some bytes, no more than there is room for
abbrev pub Fits : Came → ℕ → Type 0
Fits (came.Bytes n) room = (0 < n) × (n ≤ room)
Fits came.Nothing room = Unit {0}
Fits (came.Ended ending) room = Unit {0}

abbrev pub count_of : Came → ℕ
count_of (came.Bytes n) = n
count_of came.Nothing = 0
count_of (came.Ended ending) = 0

-- some bytes, no more than were offered
abbrev pub IsWithin : Took → ℕ → Type 0
IsWithin (took.Bytes n) offered = (0 < n) × (n ≤ offered)
IsWithin took.Nothing offered = Unit {0}
IsWithin took.Lost offered = Unit {0}

-- ---- what one call leaves

-- it was read once more, and gave these bytes
abbrev pub with_bytes : List ℕ → Inflow → Inflow
with_bytes bytes flow = record flow { bytes = flow.bytes ++ bytes; reads = flow.reads + 1 }

-- it was read once more, and had nothing
abbrev pub asked : Inflow → Inflow
asked flow = record flow { reads = flow.reads + 1 }

-- it was read once more, and had ended so
abbrev pub with_ending : Ending → Inflow → Inflow
with_ending ending flow = record flow { endings = flow.endings ++ ending ∷ []; reads = flow.reads + 1 }

-- a read into this buffer gave this
abbrev pub after_read : Inflow → Came → List ℕ → Inflow
after_read flow (came.Bytes n) buffer = with_bytes (take n buffer) flow
after_read flow came.Nothing buffer = asked flow
after_read flow (came.Ended ending) buffer = with_ending ending flow

-- it was written to once more, and took these bytes
abbrev pub with_taken : List ℕ → Outflow → Outflow
with_taken bytes flow = record flow { bytes = flow.bytes ++ bytes; writes = flow.writes + 1 }

-- it was written to once more, and took nothing
abbrev pub offered : Outflow → Outflow
offered flow = record flow { writes = flow.writes + 1 }

-- it was written to once more, and was lost
abbrev pub lost : Outflow → Outflow
lost flow = record flow { losses = flow.losses + 1; writes = flow.writes + 1 }

-- a write of these bytes gave this
abbrev pub after_write : Outflow → Took → List ℕ → Outflow
after_write flow (took.Bytes n) bytes = with_taken (take n bytes) flow
after_write flow took.Nothing bytes = offered flow
after_write flow took.Lost bytes = lost flow

-- this ending was handed on
abbrev pub after_end : Outflow → Ending → Outflow
after_end flow ending = record flow { endings = flow.endings ++ ending ∷ [] }
