-- What contracts say of what a debugger follows of such a target.
pub use Rattle.jdwp_watch.specs.Ledgers
pub use Rattle.jdwp_watch.specs.Lowerings
pub use Rattle.jdwp_watch.specs.Standings
pub use Rattle.jdwp_watch.specs.Tables
pub use Rattle.jdwp_watch.specs.Targets
pub use Rattle.jdwp_watch.specs.Tellings
pub use Rattle.jdwp_watch.specs.Watching
pub use Rattle.jdwp_watch.specs.declared.put.Put
