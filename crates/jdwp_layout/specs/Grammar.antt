-- What bytes encode under a layout, and the first fault of bytes that encode nothing (JDWP specification, "Data Types"
-- and "Protocol Details").
use Rattle.std.specs.Prelude.{◌≡◌, ℕ, ◌<◌, List, ◌∷◌, ◌++◌, length, Option, Some, None, ◌⊎◌}
use Rattle.jdwp_wire.specs.declared.data_fault.DataFault.TheVariants.{BadTag, Extra}
use Rattle.jdwp_wire.specs.Widths.{Widths}
use Rattle.jdwp_wire.specs.Reading.{Encoding, Faults}
use Rattle.jdwp_wire.specs.Sequence.{FirstFault, Always}
use Rattle.jdwp_wire.specs.Basic.{EncodesByte, ByteFault, EncodesBool, EncodesInt, EncodesLong}
use Rattle.jdwp_wire.specs.Numbers.{EncodesNumber, NumberFault}
use Rattle.jdwp_wire.specs.Text.{EncodesText, TextFault}
use Rattle.jdwp_wire.specs.Each.{EncodesEach, EachFault}
use Rattle.jdwp_wire.specs.Listed.{EncodesList, ListFault}
use Rattle.jdwp_value.specs.Locations.{EncodesLocation, LocationFault}
use Rattle.jdwp_value.specs.Values.{EncodesTaggedId, TaggedIdFault, EncodesValue, ValueFault}
use Rattle.jdwp_value.specs.Regions.{EncodesRegion, RegionFault}
use Rattle.jdwp_layout.specs.declared.item.Field.{Field}
use Rattle.jdwp_layout.specs.declared.item.Field.TheVariants as field
use Rattle.jdwp_layout.specs.ModifiersAndEvents.{modifier_fields, event_fields}
use Rattle.jdwp_layout.specs.Shapes.{EntryShape, Fields, Modifiers, Events, ItemShape, OneOf, ListOf, RegionOf}
use Rattle.jdwp_layout.specs.Meanings.{ScalarMeaning, Byte, Boolean, Int, Long, Text, Object, ReferenceType, Method, OfField, Frame, Located, Valued, Tagged, DatumMeaning, One, Many, Elements}

-- ---- a field

-- the field that holds this
abbrev pub kind_of : ScalarMeaning → Field
kind_of (Byte n) = field.Byte
kind_of (Boolean b) = field.Boolean
kind_of (Int z) = field.Int
kind_of (Long z) = field.Long
kind_of (Text s) = field.String
kind_of (Object n) = field.ObjectId
kind_of (ReferenceType n) = field.ReferenceTypeId
kind_of (Method n) = field.MethodId
kind_of (OfField n) = field.FieldId
kind_of (Frame n) = field.FrameId
kind_of (Located p) = field.Location
kind_of (Valued v) = field.Value
kind_of (Tagged t) = field.TaggedId

abbrev pub EncodesScalar : Widths → Encoding ScalarMeaning
EncodesScalar w (Byte n) code = EncodesByte n code
EncodesScalar w (Boolean b) code = EncodesBool b code
EncodesScalar w (Int z) code = EncodesInt z code
EncodesScalar w (Long z) code = EncodesLong z code
EncodesScalar w (Text s) code = EncodesText s code
EncodesScalar w (Object n) code = EncodesNumber w.object n code
EncodesScalar w (ReferenceType n) code = EncodesNumber w.reference n code
EncodesScalar w (Method n) code = EncodesNumber w.method n code
EncodesScalar w (OfField n) code = EncodesNumber w.field n code
EncodesScalar w (Frame n) code = EncodesNumber w.frame n code
EncodesScalar w (Located p) code = EncodesLocation w p code
EncodesScalar w (Valued v) code = EncodesValue w v code
EncodesScalar w (Tagged t) code = EncodesTaggedId w t code

abbrev pub EncodesField : Widths → Field → Encoding ScalarMeaning
EncodesField w field x code = (kind_of x ≡ field) × EncodesScalar w x code

-- The slice has `whole` bytes, of which the rest is left here.
abbrev pub FieldFault : Widths → ℕ → Field → Faults
FieldFault w whole field.Byte = ByteFault whole
FieldFault w whole field.Boolean = ByteFault whole
FieldFault w whole field.Int = NumberFault 4 whole
FieldFault w whole field.Long = NumberFault 8 whole
FieldFault w whole field.String = TextFault whole
FieldFault w whole field.ObjectId = NumberFault w.object whole
FieldFault w whole field.ReferenceTypeId = NumberFault w.reference whole
FieldFault w whole field.MethodId = NumberFault w.method whole
FieldFault w whole field.FieldId = NumberFault w.field whole
FieldFault w whole field.FrameId = NumberFault w.frame whole
FieldFault w whole field.Location = LocationFault w whole
FieldFault w whole field.Value = ValueFault w whole
FieldFault w whole field.TaggedId = TaggedIdFault w whole

abbrev pub EncodesFields : Widths → List Field → Encoding (List ScalarMeaning)
EncodesFields w = EncodesEach (EncodesField w)

-- each field is an item of its own
abbrev pub FieldsFault : Widths → ℕ → List Field → Faults
FieldsFault w whole = EachFault (EncodesField w) (FieldFault w whole)

-- ---- a modifier or an event: a kind byte, and the fields of that kind

-- the kind byte and the fields that were found for it
abbrev pub EncodesFieldsOf : Widths → ℕ → Option (List Field) → Encoding (List ScalarMeaning)
EncodesFieldsOf w kind found xs code =
    (fields : List Field) × (ys : List ScalarMeaning) × (rest : List ℕ)
    × (found ≡ Some fields) × EncodesFields w fields ys rest × (xs ≡ Byte kind ∷ ys) × (code ≡ kind ∷ rest)

abbrev pub EncodesKind : Widths → (ℕ → Option (List Field)) → Encoding (List ScalarMeaning)
EncodesKind w fields_of xs code = (kind : ℕ) × (kind < 256) × EncodesFieldsOf w kind (fields_of kind) xs code

abbrev pub FieldsOfFault : Widths → ℕ → Option (List Field) → Faults
FieldsOfFault w whole None = Always BadTag
FieldsOfFault w whole (Some fields) = FieldsFault w whole fields

-- A kind is judged once its byte is there. It and each field are items of their own.
abbrev pub KindFault : Widths → ℕ → (ℕ → Option (List Field)) → Faults
KindFault w whole fields_of = FirstFault EncodesByte (ByteFault whole) (λ kind. FieldsOfFault w whole (fields_of kind))

-- ---- an entry of a list

abbrev pub EncodesEntry : Widths → EntryShape → Encoding (List ScalarMeaning)
EncodesEntry w (Fields fields) = EncodesFields w fields
EncodesEntry w Modifiers = EncodesKind w modifier_fields
EncodesEntry w Events = EncodesKind w event_fields

abbrev pub EntryFault : Widths → ℕ → EntryShape → Faults
EntryFault w whole (Fields fields) = FieldsFault w whole fields
EntryFault w whole Modifiers = KindFault w whole modifier_fields
EntryFault w whole Events = KindFault w whole event_fields

-- ---- an item

-- A list is a count, and so many entries and no more.
abbrev pub EncodesItem : Widths → ItemShape → Encoding DatumMeaning
EncodesItem w (OneOf field) (One x) code = EncodesField w field x code
EncodesItem w (ListOf entry) (Many xs) code = EncodesList (EncodesEntry w entry) xs code
EncodesItem w RegionOf (Elements region) code = EncodesRegion w region code
EncodesItem w item x code = ⊥

-- A count calls for its own bytes alone: the entries are items of their own.
abbrev pub ItemFault : Widths → ℕ → ItemShape → Faults
ItemFault w whole (OneOf field) = FieldFault w whole field
ItemFault w whole (ListOf entry) = ListFault (EncodesEntry w entry) (EntryFault w whole entry) whole
ItemFault w whole RegionOf = RegionFault w whole

-- ---- the items of a layout

abbrev pub EncodesData : Widths → List ItemShape → Encoding (List DatumMeaning)
EncodesData w = EncodesEach (EncodesItem w)

abbrev pub ItemsFault : Widths → ℕ → List ItemShape → Faults
ItemsFault w whole = EachFault (EncodesItem w) (ItemFault w whole)

-- all items are encoded in front, and bytes are left over
abbrev pub LeftOver : Widths → List ItemShape → Faults
LeftOver w items bytes f =
    (xs : List DatumMeaning) × (front : List ℕ) × (rest : List ℕ)
    × EncodesData w items xs front × (bytes ≡ front ++ rest) × (0 < length rest) × (f ≡ Extra (length front))

-- The first item from the left that no front of the rest encodes decides; where each is encoded, the bytes that are left.
abbrev pub DataFaults : Widths → List ItemShape → Faults
DataFaults w items bytes f = ItemsFault w (length bytes) items bytes f ⊎ LeftOver w items bytes f
