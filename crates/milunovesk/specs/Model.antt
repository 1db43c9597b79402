-- What contracts say of both ends in one session: runs, what is told of them, and what a debugger may rely on.
pub use Rattle.jdwp_model.specs.Deferred
pub use Rattle.jdwp_model.specs.Events
pub use Rattle.jdwp_model.specs.Faultless
pub use Rattle.jdwp_model.specs.Given
pub use Rattle.jdwp_model.specs.Headline
pub use Rattle.jdwp_model.specs.Lasting
pub use Rattle.jdwp_model.specs.Measures
pub use Rattle.jdwp_model.specs.Next
pub use Rattle.jdwp_model.specs.Places
pub use Rattle.jdwp_model.specs.Seen
pub use Rattle.jdwp_model.specs.Soundness
pub use Rattle.jdwp_model.specs.Tickets
pub use Rattle.jdwp_model.specs.World
