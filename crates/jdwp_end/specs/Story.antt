-- What went through a pipe, and how often its calls failed.
use Rattle.std.specs.Prelude.{◌≡◌, ℕ, ◌<◌, ◌+◌, ◌*◌, zero, suc, List, [], ◌∷◌, ◌++◌, take, Result, Ok, Err}
use Rattle.jdwp_wire.specs.Streams.{IsFront}

-- read: the bytes that were read; written: those that were written; unflushed: those of them behind the last flush that succeeded;
-- rooms: the reads with room for a byte; early: those of them before which something was not flushed; ends: those of them that gave 0;
-- failed_reads; failed_writes: one that takes 0 of some bytes counts as failed, and a failed flush
pub record Story : Type 0 where
  pub read : List ℕ
  pub written : List ℕ
  pub unflushed : List ℕ
  pub rooms : ℕ
  pub early : ℕ
  pub ends : ℕ
  pub failed_reads : ℕ
  pub failed_writes : ℕ

-- 1 where there is a byte, else 0
abbrev pub some_of : List ℕ → ℕ
some_of [] = 0
some_of (x ∷ xs) = 1

-- 1 where there is room in a buffer and something is not flushed, else 0
abbrev pub early_by : List ℕ → List ℕ → ℕ
early_by [] unflushed = 0
early_by (x ∷ xs) unflushed = some_of unflushed

-- 1 at 0, else 0
abbrev pub zero_of : ℕ → ℕ
zero_of zero = 1
zero_of (suc n) = 0

-- a read into this buffer gave this
abbrev pub after_read : {E : Type 0} → Story → Result ℕ E → List ℕ → Story
after_read s (Ok n) buffer = record s {
  read = s.read ++ take n buffer;
  rooms = s.rooms + some_of buffer;
  early = s.early + early_by buffer s.unflushed;
  ends = s.ends + some_of buffer * zero_of n;
}
after_read s (Err e) buffer = record s {
  rooms = s.rooms + some_of buffer;
  early = s.early + early_by buffer s.unflushed;
  failed_reads = s.failed_reads + 1;
}

-- a write of these bytes gave this
abbrev pub after_write : {E : Type 0} → Story → Result ℕ E → List ℕ → Story
after_write s (Ok n) bytes = record s {
  written = s.written ++ take n bytes;
  unflushed = s.unflushed ++ take n bytes;
  failed_writes = s.failed_writes + some_of bytes * zero_of n;
}
after_write s (Err e) bytes = record s { failed_writes = s.failed_writes + 1 }

-- a flush gave this
abbrev pub after_flush : {E : Type 0} → Story → Result (Unit {0}) E → Story
after_flush s (Ok u) = record s { unflushed = [] }
after_flush s (Err e) = record s { failed_writes = s.failed_writes + 1 }

-- nothing went through
abbrev pub empty_story : Story
empty_story = record { read = []; written = []; unflushed = []; rooms = 0; early = 0; ends = 0; failed_reads = 0; failed_writes = 0 }

-- ---- what whole calls do

-- all of the bytes were written, and nothing else happened: they stand in a buffer, or left
abbrev pub with_written : List ℕ → Story → Story
with_written bytes story = record story { written = story.written ++ bytes; unflushed = story.unflushed ++ bytes }

-- some of the bytes were written, and then a write failed
pub record FailsWrite (old new : Story) (bytes : List ℕ) : Type 0 where
  pub written : (some : List ℕ) × (new.written ≡ old.written ++ some) × IsFront some bytes
  pub failed_writes : old.failed_writes < new.failed_writes
  pub read : new.read ≡ old.read
  pub early : new.early ≡ old.early

-- all that was written left
abbrev pub flushed : Story → Story
flushed story = record story { unflushed = [] }

-- a flush failed, and nothing else happened
abbrev pub FailsFlush : Story → Story → Type 0
FailsFlush old new = new ≡ record old { failed_writes = old.failed_writes + 1 }

-- the bytes were read, by one read with room, before which all that was written had left
abbrev pub with_read : List ℕ → Story → Story
with_read bytes story = record story { read = story.read ++ bytes; rooms = story.rooms + 1 }

-- a read with room failed, or gave 0, and all that was written had left before it
pub record FailsRead (old new : Story) : Type 0 where
  pub read : new.read ≡ old.read
  pub written : new.written ≡ old.written
  pub unflushed : new.unflushed ≡ old.unflushed
  pub early : new.early ≡ old.early
  pub rooms : new.rooms ≡ old.rooms + 1
  pub failed_writes : new.failed_writes ≡ old.failed_writes
  pub fails : old.failed_reads + old.ends < new.failed_reads + new.ends
