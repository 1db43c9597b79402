-- What contracts say of a target that sends replies and composites by threads of their own.
pub use Rattle.jdwp_apart.specs.Following
pub use Rattle.jdwp_apart.specs.Headline
pub use Rattle.jdwp_apart.specs.Messages
pub use Rattle.jdwp_apart.specs.Watch
pub use Rattle.jdwp_apart.specs.World
