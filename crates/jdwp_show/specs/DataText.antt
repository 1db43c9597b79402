-- Data as text.
use Rattle.std.specs.Prelude.{ℕ, ◌/◌, ◌%◌, ◌==◌, ◌||◌, nat_lt, List, [], ◌∷◌, ◌++◌, Bool, true, false, not, if◌then◌else◌, codes, decimal}
use Rattle.std.specs.Char.{encode_utf8}
use Rattle.std.specs.Fmt.{signed_decimal, digit_glyph}
use Rattle.std.specs.List.{flat_map, join_by}
use Rattle.std.specs.Str.{chars}
use Rattle.hex.specs.Hex.{encode_lower}
use Rattle.jdwp_value.specs.declared.location.Location.{Location}
use Rattle.jdwp_value.specs.declared.location.Location.TheVariants.{Null, At}
use Rattle.jdwp_value.specs.declared.location.TypeTag.{TypeTag}
use Rattle.jdwp_value.specs.declared.location.TypeTag.TheVariants.{Class, Interface, Array}
use Rattle.jdwp_value.specs.declared.value.TaggedId.{TaggedId}
use Rattle.jdwp_value.specs.declared.value.Value.{Value}
use Rattle.jdwp_value.specs.declared.value.Value.TheVariants as value
use Rattle.jdwp_value.specs.Regions.{Region}
use Rattle.jdwp_value.specs.Tags.{object_byte, tag_byte}
use Rattle.jdwp_layout.specs.Meanings.{ScalarMeaning, Byte, Boolean, Int, Long, Text, Object, ReferenceType, Method, OfField, Frame, Located, Valued, Tagged, DatumMeaning, One, Many, Elements, Raw}

-- with a comma and a space between each two
abbrev pub listed : {A : Type 0} → (A → List ℕ) → List A → List ℕ
listed text xs = join_by text (codes ", ") xs

-- what stands in a list before the thing of this index
abbrev pub separator : ℕ → List ℕ
separator index = if index == 0 then [] else codes ", "

abbrev pub boolean_text : Bool → List ℕ
boolean_text true = codes "true"
boolean_text false = codes "false"

-- `#5`
abbrev pub id_text : ℕ → List ℕ
id_text id = codes "#" ++ decimal id

-- `L#5`
abbrev pub tagged_text : TaggedId → List ℕ
tagged_text tagged = object_byte tagged.tag ∷ id_text tagged.id.0

-- ---- strings

-- `\x0a`
abbrev pub escaped : ℕ → List ℕ
escaped code = codes "\\x" ++ digit_glyph false (code / 16) ∷ digit_glyph false (code % 16) ∷ []

-- A character in a string: with a backslash before a double quote and a backslash, and `\xHH` for those below 32 and 127.
abbrev pub quoted : ℕ → List ℕ
quoted c =
    if c == 34 then codes "\\\"" else (
    if c == 92 then codes "\\\\" else (
    if nat_lt c 32 || (c == 127) then escaped c else
    encode_utf8 c))

-- whether it stands for itself: so does each byte of a character above 127
abbrev pub is_plain : ℕ → Bool
is_plain c = not (c == 34 || ((c == 92) || (nat_lt c 32 || (c == 127))))

abbrev pub string_text : List ℕ → List ℕ
string_text text = codes "\"" ++ flat_map quoted (chars text) ++ codes "\""

-- ---- locations

abbrev pub type_tag_text : TypeTag → List ℕ
type_tag_text Class = codes "1"
type_tag_text Interface = codes "2"
type_tag_text Array = codes "3"

-- `1:#10:#20:3`: the type tag, the class, the method and the index
abbrev pub location_text : Location → List ℕ
location_text Null = codes "0:#0:#0:0"
location_text (At tag class method index) = type_tag_text tag ++ codes ":" ++ id_text class.0 ++ codes ":" ++ id_text method.0 ++ codes ":" ++ decimal index

-- ---- values and regions

abbrev pub bit : Bool → ℕ
bit true = 1
bit false = 0

-- the bits of a value without its tag, as an unsigned number; an object is its tagged id, and void is nothing
abbrev pub element_text : Value → List ℕ
element_text (value.Byte bits) = decimal bits
element_text (value.Char bits) = decimal bits
element_text (value.Double bits) = decimal bits
element_text (value.Float bits) = decimal bits
element_text (value.Int bits) = decimal bits
element_text (value.Long bits) = decimal bits
element_text (value.Short bits) = decimal bits
element_text value.Void = []
element_text (value.Boolean b) = decimal (bit b)
element_text (value.Object tagged) = tagged_text tagged

-- `I:7`, `V`, `L#5`
abbrev pub value_text : Value → List ℕ
value_text (value.Byte bits) = codes "B:" ++ decimal bits
value_text (value.Char bits) = codes "C:" ++ decimal bits
value_text (value.Double bits) = codes "D:" ++ decimal bits
value_text (value.Float bits) = codes "F:" ++ decimal bits
value_text (value.Int bits) = codes "I:" ++ decimal bits
value_text (value.Long bits) = codes "J:" ++ decimal bits
value_text (value.Short bits) = codes "S:" ++ decimal bits
value_text value.Void = codes "V"
value_text (value.Boolean b) = codes "Z:" ++ decimal (bit b)
value_text (value.Object tagged) = tagged_text tagged

-- `I[1, 2]`
abbrev pub region_text : Region → List ℕ
region_text region = tag_byte region.tag ∷ codes "[" ++ listed element_text region.elements ++ codes "]"

-- ---- items

-- Numbers are decimal. Ints and longs are signed.
abbrev pub scalar_text : ScalarMeaning → List ℕ
scalar_text (Byte n) = decimal n
scalar_text (Boolean b) = boolean_text b
scalar_text (Int n) = signed_decimal n
scalar_text (Long n) = signed_decimal n
scalar_text (Text text) = string_text text
scalar_text (Object id) = id_text id
scalar_text (ReferenceType id) = id_text id
scalar_text (Method id) = id_text id
scalar_text (OfField id) = id_text id
scalar_text (Frame id) = id_text id
scalar_text (Located location) = location_text location
scalar_text (Valued v) = value_text v
scalar_text (Tagged tagged) = tagged_text tagged

-- `(1, #2)`; an entry of one item has no round brackets
abbrev pub entry_text : List ScalarMeaning → List ℕ
entry_text (x ∷ []) = scalar_text x
entry_text entry = codes "(" ++ listed scalar_text entry ++ codes ")"

-- `[(1, #2), (3, #4)]`
abbrev pub list_text : List (List ScalarMeaning) → List ℕ
list_text entries = codes "[" ++ listed entry_text entries ++ codes "]"

abbrev pub datum_text : DatumMeaning → List ℕ
datum_text (One x) = scalar_text x
datum_text (Many entries) = list_text entries
datum_text (Elements region) = region_text region
datum_text (Raw bytes) = codes "raw " ++ encode_lower bytes

-- each after a space
abbrev pub data_text : List DatumMeaning → List ℕ
data_text items = flat_map (λ datum. codes " " ++ datum_text datum) items

-- data as they are: ` raw` and hex digits, and nothing where there are none
abbrev pub raw_text : List ℕ → List ℕ
raw_text [] = []
raw_text (byte ∷ bytes) = codes " raw " ++ encode_lower (byte ∷ bytes)
