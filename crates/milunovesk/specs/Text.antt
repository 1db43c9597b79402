-- What contracts say of data as texts.
pub use Rattle.jdwp_text.specs.Says
