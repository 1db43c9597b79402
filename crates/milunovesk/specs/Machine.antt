-- What contracts say of machines and their laws.
pub use Rattle.jdwp_machine.specs.Laws
pub use Rattle.jdwp_machine.specs.Meanings
pub use Rattle.jdwp_machine.specs.Profiles
pub use Rattle.jdwp_machine.specs.declared.query.Query
