-- Values and tagged ids (JDWP specification, "Data Types": value, untagged-value, tagged-objectID).
use Rattle.std.specs.Prelude.{◌≡◌, ℕ, List, [], ◌∷◌, Bool, true, false, Option, None}
use Rattle.byteorder.specs.Endian.{big_bytes}
use Rattle.jdwp_wire.specs.declared.data_fault.DataFault.{DataFault}
use Rattle.jdwp_wire.specs.declared.data_fault.DataFault.TheVariants.{BadTag}
use Rattle.jdwp_wire.specs.Widths.{Widths}
use Rattle.jdwp_wire.specs.Reading.{Reader, Encoding, Faults}
use Rattle.jdwp_wire.specs.Sequence.{seq, FirstFault, give, mapped, refuse, Always}
use Rattle.jdwp_wire.specs.Basic.{EncodesBool, bool_canonical, bool_at}
use Rattle.jdwp_wire.specs.Numbers.{EncodesNumber, NumberFault, number_at, id_refusal}
use Rattle.jdwp_value.specs.declared.tag.ObjectTag.{ObjectTag}
use Rattle.jdwp_value.specs.declared.tag.Tag.{Tag}
use Rattle.jdwp_value.specs.declared.tag.Tag.TheVariants as tag
use Rattle.jdwp_value.specs.declared.value.TaggedId.{TaggedId}
use Rattle.jdwp_value.specs.declared.value.Value.{Value}
use Rattle.jdwp_value.specs.declared.value.Value.TheVariants as value
use Rattle.jdwp_value.specs.Tags.{object_byte, tag_byte, EncodesTag, TagFault, tag_at}

-- ---- a tagged id: an object tag and an object id

abbrev pub EncodesTaggedId : Widths → Encoding TaggedId
EncodesTaggedId w x code = (rest : List ℕ) × EncodesNumber w.object x.id.0 rest × (code ≡ object_byte x.tag ∷ rest)

abbrev pub tagged_id_canonical : Widths → TaggedId → List ℕ
tagged_id_canonical w x = object_byte x.tag ∷ big_bytes w.object x.id.0

-- another tag than an object's is bad
abbrev pub ObjectFault : Widths → ℕ → Tag → Faults
ObjectFault w whole (tag.Object kind) = NumberFault w.object whole
ObjectFault w whole other = Always BadTag

abbrev pub TaggedIdFault : Widths → ℕ → Faults
TaggedIdFault w whole = FirstFault EncodesTag (TagFault whole) (ObjectFault w whole)

-- ---- a value: a tag and what the tag calls for

abbrev pub tag_of : Value → Tag
tag_of (value.Byte n) = tag.Byte
tag_of (value.Char n) = tag.Char
tag_of (value.Double n) = tag.Double
tag_of (value.Float n) = tag.Float
tag_of (value.Int n) = tag.Int
tag_of (value.Long n) = tag.Long
tag_of (value.Short n) = tag.Short
tag_of value.Void = tag.Void
tag_of (value.Boolean b) = tag.Boolean
tag_of (value.Object x) = tag.Object x.tag

-- how many bytes the value of a tag has, without its tag
abbrev pub width_of : Widths → Tag → ℕ
width_of w tag.Byte = 1
width_of w tag.Char = 2
width_of w tag.Double = 8
width_of w tag.Float = 4
width_of w tag.Int = 4
width_of w tag.Long = 8
width_of w tag.Short = 2
width_of w tag.Void = 0
width_of w tag.Boolean = 1
width_of w (tag.Object kind) = w.object

-- the bytes of a value without its tag: a float or double has its raw bits, and true has every byte but 0
abbrev pub EncodesUntagged : Widths → Encoding Value
EncodesUntagged w (value.Byte n) code = EncodesNumber 1 n code
EncodesUntagged w (value.Char n) code = EncodesNumber 2 n code
EncodesUntagged w (value.Double n) code = EncodesNumber 8 n code
EncodesUntagged w (value.Float n) code = EncodesNumber 4 n code
EncodesUntagged w (value.Int n) code = EncodesNumber 4 n code
EncodesUntagged w (value.Long n) code = EncodesNumber 8 n code
EncodesUntagged w (value.Short n) code = EncodesNumber 2 n code
EncodesUntagged w value.Void code = code ≡ []
EncodesUntagged w (value.Boolean b) code = EncodesBool b code
EncodesUntagged w (value.Object x) code = EncodesNumber w.object x.id.0 code

-- a value of this tag, without it
abbrev pub Untagged : Widths → Tag → Encoding Value
Untagged w t v code = (tag_of v ≡ t) × EncodesUntagged w v code

abbrev pub untagged_canonical : Widths → Value → List ℕ
untagged_canonical w (value.Byte n) = big_bytes 1 n
untagged_canonical w (value.Char n) = big_bytes 2 n
untagged_canonical w (value.Double n) = big_bytes 8 n
untagged_canonical w (value.Float n) = big_bytes 4 n
untagged_canonical w (value.Int n) = big_bytes 4 n
untagged_canonical w (value.Long n) = big_bytes 8 n
untagged_canonical w (value.Short n) = big_bytes 2 n
untagged_canonical w value.Void = []
untagged_canonical w (value.Boolean b) = bool_canonical b
untagged_canonical w (value.Object x) = big_bytes w.object x.id.0

abbrev pub EncodesValue : Widths → Encoding Value
EncodesValue w v code = (rest : List ℕ) × EncodesUntagged w v rest × (code ≡ tag_byte (tag_of v) ∷ rest)

-- whether an object id follows the tag
abbrev pub is_object : Tag → Bool
is_object tag.Byte = false
is_object tag.Char = false
is_object tag.Double = false
is_object tag.Float = false
is_object tag.Int = false
is_object tag.Long = false
is_object tag.Short = false
is_object tag.Void = false
is_object tag.Boolean = false
is_object (tag.Object kind) = true

-- whether the tag is that of no value
abbrev pub is_void : Tag → Bool
is_void tag.Byte = false
is_void tag.Char = false
is_void tag.Double = false
is_void tag.Float = false
is_void tag.Int = false
is_void tag.Long = false
is_void tag.Short = false
is_void tag.Void = true
is_void tag.Boolean = false
is_void (tag.Object kind) = false

-- a value whose tag is an object's
abbrev pub ObjectValue : Widths → Encoding Value
ObjectValue w v code = (is_object (tag_of v) ≡ true) × EncodesValue w v code

abbrev pub value_canonical : Widths → Value → List ℕ
value_canonical w v = tag_byte (tag_of v) ∷ untagged_canonical w v

-- an object id may be too wide
abbrev pub value_refusal : Widths → Value → Option DataFault
value_refusal w (value.Object x) = id_refusal w.object x.id.0
value_refusal w v = None

-- the tag is at fault, or fewer bytes follow it than it calls for
abbrev pub ValueFault : Widths → ℕ → Faults
ValueFault w whole = FirstFault EncodesTag (TagFault whole) (λ t. NumberFault (width_of w t) whole)

-- ---- the same as functions

abbrev pub object_id : ObjectTag → ℕ → TaggedId
object_id kind n = record { tag = kind; id = record { 0 = n } }

abbrev pub object_at : Widths → ℕ → Tag → Reader TaggedId
object_at w whole (tag.Object kind) = mapped (object_id kind) (number_at w.object whole)
object_at w whole other = refuse BadTag

abbrev pub tagged_id_at : Widths → ℕ → Reader TaggedId
tagged_id_at w whole = seq (tag_at whole) (object_at w whole)

abbrev pub untagged_at : Widths → ℕ → Tag → Reader Value
untagged_at w whole tag.Byte = mapped (λ n. value.Byte n) (number_at 1 whole)
untagged_at w whole tag.Char = mapped (λ n. value.Char n) (number_at 2 whole)
untagged_at w whole tag.Double = mapped (λ n. value.Double n) (number_at 8 whole)
untagged_at w whole tag.Float = mapped (λ n. value.Float n) (number_at 4 whole)
untagged_at w whole tag.Int = mapped (λ n. value.Int n) (number_at 4 whole)
untagged_at w whole tag.Long = mapped (λ n. value.Long n) (number_at 8 whole)
untagged_at w whole tag.Short = mapped (λ n. value.Short n) (number_at 2 whole)
untagged_at w whole tag.Void = give value.Void
untagged_at w whole tag.Boolean = mapped (λ b. value.Boolean b) (bool_at whole)
untagged_at w whole (tag.Object kind) = mapped (λ n. value.Object (object_id kind n)) (number_at w.object whole)

abbrev pub value_at : Widths → ℕ → Reader Value
value_at w whole = seq (tag_at whole) (untagged_at w whole)
