-- What contracts say of replies as structs of named fields.
pub use Rattle.jdwp_answer.specs.Lines
pub use Rattle.jdwp_answer.specs.Objects
pub use Rattle.jdwp_answer.specs.Shaped
pub use Rattle.jdwp_answer.specs.ShapedLaws
pub use Rattle.jdwp_answer.specs.Table
pub use Rattle.jdwp_answer.specs.Tables
pub use Rattle.jdwp_answer.specs.declared.method.GenericVariable
pub use Rattle.jdwp_answer.specs.declared.method.LineEntry
pub use Rattle.jdwp_answer.specs.declared.method.LineTable
pub use Rattle.jdwp_answer.specs.declared.method.VariableEntry
