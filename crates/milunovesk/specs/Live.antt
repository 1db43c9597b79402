-- What contracts say of live sessions.
pub use Rattle.jdwp_engine.specs.LiveNext
pub use Rattle.jdwp_engine.specs.LiveRounds
pub use Rattle.jdwp_engine.specs.LiveMoving
pub use Rattle.jdwp_engine.specs.LiveStory
pub use Rattle.jdwp_engine.specs.LiveStreams
pub use Rattle.jdwp_engine.specs.declared.pipes.pipe.Came
pub use Rattle.jdwp_engine.specs.declared.pipes.pipe.Patience
