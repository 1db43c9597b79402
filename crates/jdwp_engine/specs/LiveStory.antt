-- What went through a pipe whose reads need not wait for ever.
use Rattle.std.specs.Prelude.{◌≡◌, ℕ, ◌<◌, ◌≤◌, ◌+◌, List, [], ◌∷◌, ◌++◌, ⊤, take, Result, Ok, Err}
use Rattle.jdwp_end.specs.Story.{Story, some_of}
use Rattle.jdwp_end.specs.Story as story
use Rattle.jdwp_engine.specs.declared.pipes.pipe.Came.{Came}
use Rattle.jdwp_engine.specs.declared.pipes.pipe.Came.TheVariants.{Bytes, Nothing, End}
use Rattle.jdwp_engine.specs.declared.pipes.pipe.Patience.{Patience}
use Rattle.jdwp_engine.specs.declared.pipes.pipe.Patience.TheVariants.{Step}

-- through: what went through it, where a read that found nothing counts as one with room; waits: how long each read was to wait, in order
pub record LiveStory : Type 0 where
  pub through : Story
  pub waits : List Patience

-- What may come of a read with so much room: a byte at least, and no more than there is room for; and nothing only where it waits no longer
-- than between two steps.
abbrev pub Fits : Patience → ℕ → Came → Type 0
Fits patience room (Bytes n) = (0 < n) × (n ≤ room)
Fits patience room Nothing = patience ≡ Step
Fits patience room End = ⊤

-- a read, which has room
abbrev pub begun_read : Story → Story
begun_read s = record s { rooms = s.rooms + 1; early = s.early + some_of s.unflushed }

-- what went through where a read into this buffer gave this: bytes; nothing; the end of the input; or it failed
abbrev pub through_after : {E : Type 0} → Story → Result Came E → List ℕ → Story
through_after s (Ok (Bytes n)) buffer = record (begun_read s) { read = s.read ++ take n buffer }
through_after s (Ok Nothing) buffer = begun_read s
through_after s (Ok End) buffer = record (begun_read s) { ends = s.ends + 1 }
through_after s (Err e) buffer = record (begun_read s) { failed_reads = s.failed_reads + 1 }

-- a read of this patience into this buffer gave this
abbrev pub after_read : {E : Type 0} → LiveStory → Patience → Result Came E → List ℕ → LiveStory
after_read s patience result buffer = record { through = through_after s.through result buffer; waits = s.waits ++ patience ∷ [] }

-- a write of these bytes gave this; a flush gave this
abbrev pub after_write : {E : Type 0} → LiveStory → Result ℕ E → List ℕ → LiveStory
after_write s result bytes = record s { through = story.after_write s.through result bytes }

abbrev pub after_flush : {E : Type 0} → LiveStory → Result (Unit {0}) E → LiveStory
after_flush s result = record s { through = story.after_flush s.through result }

-- nothing went through
abbrev pub empty_live : LiveStory
empty_live = record { through = story.empty_story; waits = [] }

-- ---- what whole calls do

-- all of the bytes were written, and nothing else happened
abbrev pub with_written : List ℕ → LiveStory → LiveStory
with_written bytes s = record s { through = story.with_written bytes s.through }

-- some of the bytes were written, and then a write failed
pub record FailsWrite (old new : LiveStory) (bytes : List ℕ) : Type 0 where
  pub through : story.FailsWrite old.through new.through bytes
  pub rooms : new.through.rooms ≡ old.through.rooms
  pub waits : new.waits ≡ old.waits

-- all that was written left; a flush failed, and nothing else happened
abbrev pub flushed : LiveStory → LiveStory
flushed s = record s { through = story.flushed s.through }

abbrev pub FailsFlush : LiveStory → LiveStory → Type 0
FailsFlush old new = story.FailsFlush old.through new.through × (new.waits ≡ old.waits)

-- These bytes were read by one read of this patience, before which all that was written had left; none where nothing came in the time.
abbrev pub with_read : Patience → List ℕ → LiveStory → LiveStory
with_read patience bytes s = record { through = story.with_read bytes s.through; waits = s.waits ++ patience ∷ [] }

-- a read of this patience failed, or the input ended, and all that was written had left before it
pub record FailsRead (patience : Patience) (old new : LiveStory) : Type 0 where
  pub through : story.FailsRead old.through new.through
  pub waits : new.waits ≡ old.waits ++ patience ∷ []
