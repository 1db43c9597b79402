-- What contracts say of what a debugger learns.
pub use Rattle.jdwp_mirror.specs.CommandKinds
pub use Rattle.jdwp_mirror.specs.Commands
pub use Rattle.jdwp_mirror.specs.FaultParts
pub use Rattle.jdwp_mirror.specs.Faults
pub use Rattle.jdwp_mirror.specs.KnownThreads
pub use Rattle.jdwp_mirror.specs.Laws
pub use Rattle.jdwp_mirror.specs.Messages
pub use Rattle.jdwp_mirror.specs.Mirror
pub use Rattle.jdwp_mirror.specs.Mirrors
pub use Rattle.jdwp_mirror.specs.Numbering
pub use Rattle.jdwp_mirror.specs.Widths
pub use Rattle.jdwp_mirror.specs.declared.command.Carried
pub use Rattle.jdwp_mirror.specs.declared.command.Command
pub use Rattle.jdwp_mirror.specs.declared.command.CommandKind
pub use Rattle.jdwp_mirror.specs.declared.requests.KeptRequest
pub use Rattle.jdwp_mirror.specs.declared.threads.Known
