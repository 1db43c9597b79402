-- What contracts say of both ends in one process.
pub use Rattle.jdwp_link.specs.Clauses
pub use Rattle.jdwp_link.specs.Links
pub use Rattle.jdwp_link.specs.Moving
pub use Rattle.jdwp_link.specs.Outcomes
pub use Rattle.jdwp_link.specs.Stands
pub use Rattle.jdwp_link.specs.Told
pub use Rattle.jdwp_link.specs.Ways
pub use Rattle.jdwp_link.specs.declared.events.LinkEvent
pub use Rattle.jdwp_link.specs.declared.events.Outcome
pub use Rattle.jdwp_link.specs.declared.events.Stopped
pub use Rattle.jdwp_link.specs.declared.link.Link
pub use Rattle.jdwp_link.specs.declared.way.Memory
pub use Rattle.jdwp_link.specs.declared.way.Side
