-- What contracts say of what both ends have in common.
pub use Rattle.jdwp_end.specs.Ends
pub use Rattle.jdwp_end.specs.Sessions
pub use Rattle.jdwp_end.specs.declared.phase.Phase
