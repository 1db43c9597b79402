-- What contracts say of a client.
pub use Rattle.jdwp_client.specs.Clients
pub use Rattle.jdwp_client.specs.ClientsKept
pub use Rattle.jdwp_client.specs.Errors
pub use Rattle.jdwp_client.specs.Exact
pub use Rattle.jdwp_client.specs.Holding
pub use Rattle.jdwp_client.specs.Keeping
pub use Rattle.jdwp_client.specs.Tickets
pub use Rattle.jdwp_client.specs.Turning
pub use Rattle.jdwp_client.specs.declared.errors.ClientError
pub use Rattle.jdwp_client.specs.declared.errors.Loss
pub use Rattle.jdwp_client.specs.declared.options.Options
