-- What contracts say of sessions over scripts.
pub use Rattle.jdwp_engine.specs.Serving
