-- What contracts say of commands by name, and their answers.
pub use Rattle.jdwp_command.specs.Answered
pub use Rattle.jdwp_command.specs.Asks
pub use Rattle.jdwp_command.specs.Contents
