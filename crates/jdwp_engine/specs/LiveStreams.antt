-- What a contract sees of a reader whose reads need not wait for ever and a writer as a live pipe.
use Rattle.std.specs.Prelude.{length}
use Rattle.jdwp_end.specs.Streams.{early_in}
use Rattle.jdwp_engine.specs.declared.pipes.streams.LiveStreams.{LiveStreams}
use Rattle.jdwp_engine.specs.LiveStory.{LiveStory}

-- what went through them
abbrev pub story_of : {R W : Type 0} → LiveStreams R W → LiveStory
story_of s = record {
  through = record {
    read = s.read.bytes;
    written = s.written.bytes;
    unflushed = s.unflushed.bytes;
    rooms = length s.rooms.items;
    early = early_in s.rooms.items;
    ends = length s.ends.items;
    failed_reads = length s.failed_reads.items;
    failed_writes = length s.failed_writes.items;
  };
  waits = s.waits.items;
}

-- where they read from
abbrev pub reader_of : {R W : Type 0} → LiveStreams R W → R
reader_of s = s.reader

-- where they write to
abbrev pub writer_of : {R W : Type 0} → LiveStreams R W → W
writer_of s = s.writer
