-- The same as functions: what is read under a layout.
use Rattle.std.specs.Prelude.{ℕ, ◌-◌, ◌==◌, if◌then◌else◌, List, ◌∷◌, length, Option, Some, None, Result, Ok, Err}
use Rattle.jdwp_wire.specs.declared.data_fault.DataFault.{DataFault}
use Rattle.jdwp_wire.specs.declared.data_fault.DataFault.TheVariants.{BadTag, Extra}
use Rattle.jdwp_wire.specs.Widths.{Widths}
use Rattle.jdwp_wire.specs.Reading.{Reader, ◌>>=◌}
use Rattle.jdwp_wire.specs.Sequence.{seq, mapped, refuse}
use Rattle.jdwp_wire.specs.Basic.{byte_at, bool_at, int_at, long_at}
use Rattle.jdwp_wire.specs.Numbers.{number_at}
use Rattle.jdwp_wire.specs.Text.{text_at}
use Rattle.jdwp_wire.specs.Each.{each_at}
use Rattle.jdwp_wire.specs.Listed.{list_at}
use Rattle.jdwp_value.specs.Locations.{location_at}
use Rattle.jdwp_value.specs.Values.{tagged_id_at, value_at}
use Rattle.jdwp_value.specs.Regions.{region_at}
use Rattle.jdwp_layout.specs.declared.item.Field.{Field}
use Rattle.jdwp_layout.specs.declared.item.Field.TheVariants as field
use Rattle.jdwp_layout.specs.ModifiersAndEvents.{modifier_fields, event_fields}
use Rattle.jdwp_layout.specs.Shapes.{EntryShape, Fields, Modifiers, Events, ItemShape, OneOf, ListOf, RegionOf}
use Rattle.jdwp_layout.specs.Meanings.{ScalarMeaning, Byte, Boolean, Int, Long, Text, Object, ReferenceType, Method, OfField, Frame, Located, Valued, Tagged, DatumMeaning, One, Many, Elements}

abbrev pub field_at : Widths → ℕ → Field → Reader ScalarMeaning
field_at w whole field.Byte = mapped (λ n. Byte n) (byte_at whole)
field_at w whole field.Boolean = mapped (λ b. Boolean b) (bool_at whole)
field_at w whole field.Int = mapped (λ z. Int z) (int_at whole)
field_at w whole field.Long = mapped (λ z. Long z) (long_at whole)
field_at w whole field.String = mapped (λ s. Text s) (text_at whole)
field_at w whole field.ObjectId = mapped (λ n. Object n) (number_at w.object whole)
field_at w whole field.ReferenceTypeId = mapped (λ n. ReferenceType n) (number_at w.reference whole)
field_at w whole field.MethodId = mapped (λ n. Method n) (number_at w.method whole)
field_at w whole field.FieldId = mapped (λ n. OfField n) (number_at w.field whole)
field_at w whole field.FrameId = mapped (λ n. Frame n) (number_at w.frame whole)
field_at w whole field.Location = mapped (λ p. Located p) (location_at w whole)
field_at w whole field.Value = mapped (λ v. Valued v) (value_at w whole)
field_at w whole field.TaggedId = mapped (λ t. Tagged t) (tagged_id_at w whole)

abbrev pub fields_at : Widths → ℕ → List Field → Reader (List ScalarMeaning)
fields_at w whole = each_at (field_at w whole)

abbrev pub fields_of_at : Widths → ℕ → ℕ → Option (List Field) → Reader (List ScalarMeaning)
fields_of_at w whole kind None = refuse BadTag
fields_of_at w whole kind (Some fields) = mapped (λ xs. Byte kind ∷ xs) (fields_at w whole fields)

abbrev pub kind_at : Widths → ℕ → (ℕ → Option (List Field)) → Reader (List ScalarMeaning)
kind_at w whole fields_of = seq (byte_at whole) (λ kind. fields_of_at w whole kind (fields_of kind))

abbrev pub entry_at : Widths → ℕ → EntryShape → Reader (List ScalarMeaning)
entry_at w whole (Fields fields) = fields_at w whole fields
entry_at w whole Modifiers = kind_at w whole modifier_fields
entry_at w whole Events = kind_at w whole event_fields

abbrev pub item_at : Widths → ℕ → ItemShape → Reader DatumMeaning
item_at w whole (OneOf field) = mapped (λ x. One x) (field_at w whole field)
item_at w whole (ListOf entry) = mapped (λ xs. Many xs) (list_at (entry_at w whole entry) whole)
item_at w whole RegionOf = mapped (λ region. Elements region) (region_at w whole)

abbrev pub items_at : Widths → ℕ → List ItemShape → Reader (List DatumMeaning)
items_at w whole = each_at (item_at w whole)

-- all of the bytes
abbrev pub data_at : Widths → List ItemShape → List ℕ → Result (List DatumMeaning) DataFault
data_at w items bytes = items_at w (length bytes) items bytes >>= λ x. if length x.1 == 0 then Ok x.0 else Err (Extra (length bytes - length x.1))
