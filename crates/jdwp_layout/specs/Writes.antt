-- What is written under a layout, and why data can't be written.
use Rattle.std.specs.Prelude.{ℕ, List, [], ◌∷◌, Option, Some, None}
use Rattle.std.specs.List.{flat_map}
use Rattle.byteorder.specs.Endian.{big_bytes}
use Rattle.jdwp_wire.specs.declared.data_fault.DataFault.{DataFault}
use Rattle.jdwp_wire.specs.declared.data_fault.DataFault.TheVariants.{BadSize}
use Rattle.jdwp_wire.specs.Widths.{Widths}
use Rattle.jdwp_wire.specs.Reading.{first_of_two}
use Rattle.jdwp_wire.specs.Basic.{bool_canonical, int_canonical, long_canonical}
use Rattle.jdwp_wire.specs.Numbers.{id_refusal}
use Rattle.jdwp_wire.specs.Text.{text_canonical, text_refusal}
use Rattle.jdwp_wire.specs.Listed.{list_canonical, list_refusal}
use Rattle.jdwp_value.specs.Locations.{location_canonical, location_refusal}
use Rattle.jdwp_value.specs.Values.{tagged_id_canonical, value_canonical, value_refusal}
use Rattle.jdwp_value.specs.Regions.{region_canonical, region_refusal}
use Rattle.jdwp_layout.specs.declared.item.Field.{Field}
use Rattle.jdwp_layout.specs.declared.item.Field.TheVariants as field
use Rattle.jdwp_layout.specs.ModifiersAndEvents.{modifier_fields, event_fields}
use Rattle.jdwp_layout.specs.Shapes.{EntryShape, Fields, Modifiers, Events, ItemShape, OneOf, ListOf, RegionOf}
use Rattle.jdwp_layout.specs.Meanings.{ScalarMeaning, Byte, Boolean, Int, Long, Text, Object, ReferenceType, Method, OfField, Frame, Located, Valued, Tagged, DatumMeaning, One, Many, Elements, Raw}

-- ---- the canonical encoding

abbrev pub scalar_canonical : Widths → ScalarMeaning → List ℕ
scalar_canonical w (Byte n) = n ∷ []
scalar_canonical w (Boolean b) = bool_canonical b
scalar_canonical w (Int z) = int_canonical z
scalar_canonical w (Long z) = long_canonical z
scalar_canonical w (Text s) = text_canonical s
scalar_canonical w (Object n) = big_bytes w.object n
scalar_canonical w (ReferenceType n) = big_bytes w.reference n
scalar_canonical w (Method n) = big_bytes w.method n
scalar_canonical w (OfField n) = big_bytes w.field n
scalar_canonical w (Frame n) = big_bytes w.frame n
scalar_canonical w (Located p) = location_canonical w p
scalar_canonical w (Valued v) = value_canonical w v
scalar_canonical w (Tagged t) = tagged_id_canonical w t

abbrev pub entry_canonical : Widths → List ScalarMeaning → List ℕ
entry_canonical w xs = flat_map (scalar_canonical w) xs

abbrev pub datum_canonical : Widths → DatumMeaning → List ℕ
datum_canonical w (One x) = scalar_canonical w x
datum_canonical w (Many xs) = list_canonical (entry_canonical w) xs
datum_canonical w (Elements region) = region_canonical w region
datum_canonical w (Raw bytes) = bytes

abbrev pub data_canonical : Widths → List DatumMeaning → List ℕ
data_canonical w xs = flat_map (datum_canonical w) xs

-- ---- refusals

-- one value for each key: the first refusal from the left, where a value too few or too many is BadSize
abbrev pub each_refusal : {A X : Type 0} → (A → X → Option DataFault) → List A → List X → Option DataFault
each_refusal refusal [] [] = None
each_refusal refusal (k ∷ ks) (x ∷ xs) = first_of_two (refusal k x) (each_refusal refusal ks xs)
each_refusal refusal ks xs = Some BadSize

-- what another field holds is not of the layout's shape
abbrev pub field_refusal : Widths → Field → ScalarMeaning → Option DataFault
field_refusal w field.Byte (Byte n) = None
field_refusal w field.Boolean (Boolean b) = None
field_refusal w field.Int (Int z) = None
field_refusal w field.Long (Long z) = None
field_refusal w field.String (Text s) = text_refusal s
field_refusal w field.ObjectId (Object n) = id_refusal w.object n
field_refusal w field.ReferenceTypeId (ReferenceType n) = id_refusal w.reference n
field_refusal w field.MethodId (Method n) = id_refusal w.method n
field_refusal w field.FieldId (OfField n) = id_refusal w.field n
field_refusal w field.FrameId (Frame n) = id_refusal w.frame n
field_refusal w field.Location (Located p) = location_refusal w p
field_refusal w field.Value (Valued v) = value_refusal w v
field_refusal w field.TaggedId (Tagged t) = id_refusal w.object t.id.0
field_refusal w field x = Some BadSize

abbrev pub fields_refusal : Widths → List Field → List ScalarMeaning → Option DataFault
fields_refusal w = each_refusal (field_refusal w)

abbrev pub fields_of_refusal : Widths → Option (List Field) → List ScalarMeaning → Option DataFault
fields_of_refusal w None xs = Some BadSize
fields_of_refusal w (Some fields) xs = fields_refusal w fields xs

-- a modifier or an event begins with a byte that is a kind
abbrev pub kind_refusal : Widths → (ℕ → Option (List Field)) → List ScalarMeaning → Option DataFault
kind_refusal w fields_of (Byte kind ∷ xs) = fields_of_refusal w (fields_of kind) xs
kind_refusal w fields_of xs = Some BadSize

abbrev pub entry_refusal : Widths → EntryShape → List ScalarMeaning → Option DataFault
entry_refusal w (Fields fields) xs = fields_refusal w fields xs
entry_refusal w Modifiers xs = kind_refusal w modifier_fields xs
entry_refusal w Events xs = kind_refusal w event_fields xs

abbrev pub item_refusal : Widths → ItemShape → DatumMeaning → Option DataFault
item_refusal w (OneOf field) (One x) = field_refusal w field x
item_refusal w (ListOf entry) (Many xs) = list_refusal (entry_refusal w entry) xs
item_refusal w RegionOf (Elements region) = region_refusal w region
item_refusal w item x = Some BadSize

abbrev pub data_refusal : Widths → List ItemShape → List DatumMeaning → Option DataFault
data_refusal w = each_refusal (item_refusal w)
