-- What the entries of line tables and variable tables hold (JDWP specification, "Method").
use Rattle.std.specs.Prelude.{List, [], ◌∷◌}
use Rattle.std.specs.String.{string_bytes}
use Rattle.jdwp_layout.specs.declared.item.Field.{Field}
use Rattle.jdwp_layout.specs.declared.item.Field.TheVariants as field
use Rattle.jdwp_layout.specs.Shapes.{ItemShape, OneOf, ListOf, Fields}
use Rattle.jdwp_layout.specs.Meanings.{ScalarMeaning, Int, Long, Text}
use Rattle.jdwp_answer.specs.declared.method.LineEntry.{LineEntry}
use Rattle.jdwp_answer.specs.declared.method.VariableEntry.{VariableEntry}
use Rattle.jdwp_answer.specs.declared.method.GenericVariable.{GenericVariable}

abbrev pub line_kinds : List Field
line_kinds = field.Long ∷ field.Int ∷ []

abbrev pub line_fields : LineEntry → List ScalarMeaning
line_fields l = Long l.code_index ∷ Int l.line ∷ []

abbrev pub line_table : List ItemShape
line_table = OneOf field.Long ∷ OneOf field.Long ∷ ListOf (Fields line_kinds) ∷ []

abbrev pub variable_kinds : List Field
variable_kinds = field.Long ∷ field.String ∷ field.String ∷ field.Int ∷ field.Int ∷ []

abbrev pub variable_fields : VariableEntry → List ScalarMeaning
variable_fields v = Long v.code_index ∷ Text (string_bytes v.name) ∷ Text (string_bytes v.signature) ∷ Int v.length ∷ Int v.slot ∷ []

abbrev pub variable_table : List ItemShape
variable_table = OneOf field.Int ∷ ListOf (Fields variable_kinds) ∷ []

abbrev pub generic_variable_kinds : List Field
generic_variable_kinds = field.Long ∷ field.String ∷ field.String ∷ field.String ∷ field.Int ∷ field.Int ∷ []

abbrev pub generic_variable_fields : GenericVariable → List ScalarMeaning
generic_variable_fields v =
    Long v.code_index ∷ Text (string_bytes v.name) ∷ Text (string_bytes v.signature) ∷ Text (string_bytes v.generic_signature) ∷ Int v.length ∷ Int v.slot ∷ []

abbrev pub generic_variable_table : List ItemShape
generic_variable_table = OneOf field.Int ∷ ListOf (Fields generic_variable_kinds) ∷ []
