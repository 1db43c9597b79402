-- What contracts say of bytes between an end and a reader and a writer.
pub use Rattle.jdwp_end.specs.Moving
pub use Rattle.jdwp_end.specs.Story
pub use Rattle.jdwp_end.specs.Streams
pub use Rattle.jdwp_end.specs.declared.pipes.ended.Ended
