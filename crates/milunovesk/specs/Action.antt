-- What contracts say of what commands ask.
pub use Rattle.jdwp_action.specs.Actions
pub use Rattle.jdwp_action.specs.AnswerPackets
pub use Rattle.jdwp_action.specs.CommandPackets
pub use Rattle.jdwp_action.specs.CommandReads
pub use Rattle.jdwp_action.specs.RowLayouts
