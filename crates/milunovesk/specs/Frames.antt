-- What contracts say of a client that keeps frames.
pub use Rattle.jdwp_frames.specs.Changing
pub use Rattle.jdwp_frames.specs.Frames
pub use Rattle.jdwp_frames.specs.Lasting
