-- What a contract sees of a reader and a writer as a pipe.
use Rattle.std.specs.Prelude.{ℕ, ◌+◌, List, [], ◌∷◌, length}
use Rattle.trace.specs.declared.History.{History}
use Rattle.jdwp_end.specs.declared.pipes.streams.Streams.{Streams}
use Rattle.jdwp_end.specs.Story.{Story, some_of}

-- the reads before which something was not flushed, of what was not flushed before each
abbrev pub early_in : List History → ℕ
early_in [] = 0
early_in (before ∷ later) = some_of before.bytes + early_in later

-- what went through them
abbrev pub story_of : {R W : Type 0} → Streams R W → Story
story_of s = record {
  read = s.read.bytes;
  written = s.written.bytes;
  unflushed = s.unflushed.bytes;
  rooms = length s.rooms.items;
  early = early_in s.rooms.items;
  ends = length s.ends.items;
  failed_reads = length s.failed_reads.items;
  failed_writes = length s.failed_writes.items;
}

-- where they read from
abbrev pub reader_of : {R W : Type 0} → Streams R W → R
reader_of s = s.reader

-- where they write to
abbrev pub writer_of : {R W : Type 0} → Streams R W → W
writer_of s = s.writer
