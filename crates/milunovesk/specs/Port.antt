-- What contracts say of sessions at ports.
pub use Rattle.jdwp_port.specs.Attached
pub use Rattle.jdwp_port.specs.Connections
pub use Rattle.jdwp_port.specs.Faults
pub use Rattle.jdwp_port.specs.Listeners
pub use Rattle.jdwp_port.specs.Notices
pub use Rattle.jdwp_port.specs.Served
pub use Rattle.jdwp_port.specs.Watching
