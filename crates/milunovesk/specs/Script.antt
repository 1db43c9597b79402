-- What contracts say of scripts.
pub use Rattle.jdwp_script.specs.Faults
pub use Rattle.jdwp_script.specs.Limits
pub use Rattle.jdwp_script.specs.Literals
pub use Rattle.jdwp_script.specs.Meanings
pub use Rattle.jdwp_script.specs.Members
pub use Rattle.jdwp_script.specs.Parts
pub use Rattle.jdwp_script.specs.Reading
pub use Rattle.jdwp_script.specs.ScriptFaultNumbers
pub use Rattle.jdwp_script.specs.TooWide
pub use Rattle.jdwp_script.specs.Twice
pub use Rattle.jdwp_script.specs.declared.fault.ScriptFault
