-- What contracts say of `serve`.
pub use Rattle.jdwp_engine.specs.Outcome
pub use Rattle.jdwp_engine.specs.Rounds
pub use Rattle.jdwp_engine.specs.Run
pub use Rattle.jdwp_engine.specs.RunLaws
pub use Rattle.jdwp_engine.specs.Sessions
