-- Bytes that leave an end and are written on a live pipe, by one piece after the other.
use Rattle.std.proofs.Common.{◌≡◌, ℕ, ◌+◌, ◌*◌, ◌<◌, ◌++◌, List, take, ap, refl}
use Rattle.jdwp_end.specs.Story.{Story, some_of, zero_of}
use Rattle.jdwp_end.specs.Story as story
use Rattle.jdwp_end.proofs.Leaving.{written-more}
use Rattle.jdwp_engine.specs.LiveStory.{LiveStory, with_written}

-- a story in which this went through
abbrev with_through : LiveStory → Story → LiveStory
with_through s x = record s { through = x }

-- what went through behind a write that took so many bytes of this piece
abbrev pub taking : ℕ → List ℕ → Story → Story
taking count piece t = record t { written = t.written ++ take count piece; unflushed = t.unflushed ++ take count piece; failed_writes = t.failed_writes + some_of piece * zero_of count }

-- what was written before, and then these bytes
pub live-more : (s t u : LiveStory) (done piece more : List ℕ) (count : ℕ) → t ≡ with_written done s → 0 < count → take count piece ≡ more
    → u ≡ record t { through = taking count piece t.through } → u ≡ with_written (done ++ more) s
live-more s t u done piece more count before some same after =
    rw (after, before)
    (ap (with_through s)
    (written-more s.through (story.with_written done s.through) (taking count piece (story.with_written done s.through)) done piece more count refl some same refl))
