-- Text without a line end.
use Rattle.std.proofs.Common.{◌≡◌, ℕ, zero, suc, ◌+◌, ◌/◌, ◌%◌, ◌<◌, Bool, true, false, cond, not, ◌&&◌, ◌||◌, ◌==◌, List, [], ◌∷◌, ◌++◌, refl, ◌∙◌, arith, codes, decimal, ℤ, pos, negsuc, nat_lt, get_or, Option, Some, None, subst}
use Rattle.std.proofs.lemmas.List.Folds.{list_all-append}
use Rattle.std.proofs.lemmas.Bool.Decides.{nat_tests}
use Rattle.std.specs.Char.{encode_utf8}
use Rattle.std.specs.Fmt.{digits, digits_onto, digit_glyph, signed_decimal}
use Rattle.std.specs.List.{flat_map, join_by, list_all}
use Rattle.std.specs.Str.{chars}
use Rattle.hex.specs.Hex.{encode_lower, encode_with, lower_digits}
use Rattle.jdwp_value.specs.declared.location.Location.{Location}
use Rattle.jdwp_value.specs.declared.location.Location.TheVariants.{Null, At}
use Rattle.jdwp_value.specs.declared.location.TypeTag.{TypeTag}
use Rattle.jdwp_value.specs.declared.location.TypeTag.TheVariants.{Class, Interface, Array}
use Rattle.jdwp_value.specs.declared.value.TaggedId.{TaggedId}
use Rattle.jdwp_value.specs.declared.value.Value.{Value}
use Rattle.jdwp_value.specs.declared.value.Value.TheVariants as value
use Rattle.jdwp_value.specs.Regions.{Region}
use Rattle.jdwp_value.specs.declared.tag.ObjectTag.{ObjectTag}
use Rattle.jdwp_value.specs.declared.tag.ObjectTag.TheVariants as kind
use Rattle.jdwp_value.specs.declared.tag.Tag.{Tag}
use Rattle.jdwp_value.specs.declared.tag.Tag.TheVariants as tag
use Rattle.jdwp_value.specs.Tags.{object_byte, tag_byte}
use Rattle.jdwp_layout.specs.Meanings.{ScalarMeaning, Byte, Boolean, Int, Long, Text, Object, ReferenceType, Method, OfField, Frame, Located, Valued, Tagged, DatumMeaning, One, Many, Elements, Raw}
use Rattle.jdwp_layout.specs.Rows.{Row, look_up, row_in}
use Rattle.jdwp_layout.specs.CommandTable.{row_at, command_sets}
use Rattle.jdwp_show.specs.declared.command_number.CommandNumber.{CommandNumber}
use Rattle.jdwp_show.specs.MessageLines.{name_in, name_text}
use Rattle.jdwp_show.specs.DataText.{listed, id_text, tagged_text, escaped, quoted, string_text, type_tag_text, location_text, element_text, value_text, region_text, scalar_text, entry_text, datum_text, data_text, raw_text}

-- neither a newline nor a carriage return
abbrev pub is_no_end : ℕ → Bool
is_no_end b = not ((b == 10) || (b == 13))

pub record OneLine (text : List ℕ) : Type 0 where
  pub all : list_all is_no_end text ≡ true

large : (b : ℕ) → 13 < b → is_no_end b ≡ true
large b h = grind (arith, nat_tests)

pub none : OneLine []
none = record { all = refl }

pub more : (b : ℕ) (text : List ℕ) → is_no_end b ≡ true → OneLine text → OneLine (b ∷ text)
more b text h t = record { all = rw (h, t.all) refl }

pub both : {a b : List ℕ} → OneLine a → OneLine b → OneLine (a ++ b)
both {a} {b} h k = record { all = list_all-append is_no_end a b ∙ rw (h.all, k.all) refl }

each : {X : Type 0} (text : X → List ℕ) → ((x : X) → OneLine (text x)) → (xs : List X) → OneLine (flat_map text xs)
each text h [] = none
each text h (x ∷ xs) = both (h x) (each text h xs)

joined : {X : Type 0} (text : X → List ℕ) (sep : List ℕ) → OneLine sep → ((x : X) → OneLine (text x)) → (xs : List X) → OneLine (join_by text sep xs)
joined text sep s h [] = none
joined text sep s h (x ∷ xs) = both (h x) (each (λ y. sep ++ text y) (λ y. both s (h y)) xs)

either : (b : Bool) (x y : List ℕ) → OneLine x → OneLine y → OneLine (cond b x y)
either true x y h k = h
either false x y h k = k

-- ---- numbers

glyph : (d : ℕ) (b : Bool) → 13 < cond b (48 + d) (87 + d)
glyph d true = omega arith
glyph d false = omega arith

digits_line : (k base n : ℕ) (text : List ℕ) → OneLine text → OneLine (digits_onto k base false n text)
digits_line zero base n text h = h
digits_line (suc k) base n text h =
    let here : OneLine (digit_glyph false (n % base) ∷ text) = more (digit_glyph false (n % base)) text (large (digit_glyph false (n % base)) (glyph (n % base) (nat_lt (n % base) 10))) h in
    either (n / base == 0) (digit_glyph false (n % base) ∷ text) (digits_onto k base false (n / base) (digit_glyph false (n % base) ∷ text)) here (digits_line k base (n / base) (digit_glyph false (n % base) ∷ text) here)

pub number : (n : ℕ) → OneLine (decimal n)
unfolding digits
number n = digits_line 64 10 n [] none

signed : (z : ℤ) → OneLine (signed_decimal z)
signed (pos n) = number n
signed (negsuc n) = more 45 (decimal (suc n)) refl (number (suc n))

-- ---- text

first : (a b : Bool) → (a && b) ≡ true → a ≡ true
first true b h = refl
first false b h = h

second : (a b : Bool) → (a && b) ≡ true → b ≡ true
second true b h = h
second false b h = cc

within : (table : List ℕ) (i : ℕ) → list_all is_no_end table ≡ true → is_no_end (get_or table i 0) ≡ true
within [] i h = refl
within (b ∷ table) zero h = first (is_no_end b) (list_all is_no_end table) h
within (b ∷ table) (suc i) h = within table i (second (is_no_end b) (list_all is_no_end table) h)

hex : (bytes : List ℕ) → OneLine (encode_lower bytes)
unfolding encode_with
hex [] = none
hex (b ∷ bytes) =
    more (get_or lower_digits (b / 16) 0) (get_or lower_digits (b % 16) 0 ∷ encode_lower bytes) (within lower_digits (b / 16) refl)
    (more (get_or lower_digits (b % 16) 0) (encode_lower bytes) (within lower_digits (b % 16) refl) (hex bytes))

encoded : (c : ℕ) → 13 < c → OneLine (encode_utf8 c)
unfolding encode_utf8
encoded c h =
    let next : (n : ℕ) → is_no_end (128 + n) ≡ true = λ n. large (128 + n) (omega arith) in
    either (nat_lt c 128) (c ∷ []) _ (more c [] (large c h) none)
    (either (nat_lt c 2048) ((192 + c / 64) ∷ (128 + c % 64) ∷ []) _ (more _ _ (large (192 + c / 64) (omega arith)) (more _ _ (next (c % 64)) none))
    (either (nat_lt c 65536) ((224 + c / 4096) ∷ (128 + c / 64 % 64) ∷ (128 + c % 64) ∷ []) _ (more _ _ (large (224 + c / 4096) (omega arith)) (more _ _ (next (c / 64 % 64)) (more _ _ (next (c % 64)) none)))
    (more _ _ (large (240 + c / 262144) (omega arith)) (more _ _ (next (c / 4096 % 64)) (more _ _ (next (c / 64 % 64)) (more _ _ (next (c % 64)) none))))))

escaped_line : (c : ℕ) → OneLine (escaped c)
escaped_line c =
    let one : is_no_end (digit_glyph false (c / 16)) ≡ true = large (digit_glyph false (c / 16)) (glyph (c / 16) (nat_lt (c / 16) 10)) in
    let two : is_no_end (digit_glyph false (c % 16)) ≡ true = large (digit_glyph false (c % 16)) (glyph (c % 16) (nat_lt (c % 16) 10)) in
    more 92 _ refl (more 120 _ refl (more (digit_glyph false (c / 16)) _ one (more (digit_glyph false (c % 16)) _ two none)))

-- what is below 32 is escaped
by_size : (c : ℕ) (low del : Bool) → nat_lt c 32 ≡ low → OneLine (cond (low || del) (escaped c) (encode_utf8 c))
by_size c true del e = escaped_line c
by_size c false true e = escaped_line c
by_size c false false e = encoded c (grind (arith, nat_tests))

quoted_line : (c : ℕ) → OneLine (quoted c)
quoted_line c =
    either (c == 34) (codes "\\\"") _ (record { all = refl }) (either (c == 92) (codes "\\\\") _ (record { all = refl }) (by_size c (nat_lt c 32) (c == 127) refl))

string_line : (text : List ℕ) → OneLine (string_text text)
string_line text = more 34 _ refl (both (each quoted quoted_line (chars text)) (record { all = refl }))

-- ---- values

id_line : (id : ℕ) → OneLine (id_text id)
id_line id = more 35 (decimal id) refl (number id)

object_line : (k : ObjectTag) → is_no_end (object_byte k) ≡ true
object_line kind.Array = refl
object_line kind.Object = refl
object_line kind.String = refl
object_line kind.Thread = refl
object_line kind.ThreadGroup = refl
object_line kind.ClassLoader = refl
object_line kind.ClassObject = refl

tag_line : (t : Tag) → is_no_end (tag_byte t) ≡ true
tag_line tag.Byte = refl
tag_line tag.Char = refl
tag_line tag.Double = refl
tag_line tag.Float = refl
tag_line tag.Int = refl
tag_line tag.Long = refl
tag_line tag.Short = refl
tag_line tag.Void = refl
tag_line tag.Boolean = refl
tag_line (tag.Object k) = object_line k

tagged_line : (tagged : TaggedId) → OneLine (tagged_text tagged)
tagged_line tagged = more (object_byte tagged.tag) (id_text tagged.id.0) (object_line tagged.tag) (id_line tagged.id.0)

type_tag_line : (t : TypeTag) → OneLine (type_tag_text t)
type_tag_line Class = record { all = refl }
type_tag_line Interface = record { all = refl }
type_tag_line Array = record { all = refl }

colon : OneLine (codes ":")
colon = record { all = refl }

location_line : (location : Location) → OneLine (location_text location)
location_line Null = record { all = refl }
location_line (At tag class method index) = both (both (both (both (both (both (type_tag_line tag) colon) (id_line class.0)) colon) (id_line method.0)) colon) (number index)

element_line : (v : Value) → OneLine (element_text v)
element_line (value.Byte bits) = number bits
element_line (value.Char bits) = number bits
element_line (value.Double bits) = number bits
element_line (value.Float bits) = number bits
element_line (value.Int bits) = number bits
element_line (value.Long bits) = number bits
element_line (value.Short bits) = number bits
element_line value.Void = none
element_line (value.Boolean true) = number 1
element_line (value.Boolean false) = number 0
element_line (value.Object tagged) = tagged_line tagged

under : (letter n : ℕ) → is_no_end letter ≡ true → OneLine (letter ∷ 58 ∷ decimal n)
under letter n h = more letter (58 ∷ decimal n) h (more 58 (decimal n) refl (number n))

value_line : (v : Value) → OneLine (value_text v)
value_line (value.Byte bits) = under 66 bits refl
value_line (value.Char bits) = under 67 bits refl
value_line (value.Double bits) = under 68 bits refl
value_line (value.Float bits) = under 70 bits refl
value_line (value.Int bits) = under 73 bits refl
value_line (value.Long bits) = under 74 bits refl
value_line (value.Short bits) = under 83 bits refl
value_line value.Void = record { all = refl }
value_line (value.Boolean true) = under 90 1 refl
value_line (value.Boolean false) = under 90 0 refl
value_line (value.Object tagged) = tagged_line tagged

listed_line : {A : Type 0} (text : A → List ℕ) → ((a : A) → OneLine (text a)) → (xs : List A) → OneLine (listed text xs)
listed_line text h xs = joined text (codes ", ") (record { all = refl }) h xs

in_brackets : (before after : List ℕ) (text : List ℕ) → OneLine before → OneLine after → OneLine text → OneLine (before ++ text ++ after)
in_brackets before after text b a t = both (both b t) a

region_line : (region : Region) → OneLine (region_text region)
region_line region =
    more (tag_byte region.tag) _ (tag_line region.tag) (in_brackets (codes "[") (codes "]") (listed element_text region.elements) (record { all = refl }) (record { all = refl }) (listed_line element_text element_line region.elements))

-- ---- items

scalar_line : (x : ScalarMeaning) → OneLine (scalar_text x)
scalar_line (Byte n) = number n
scalar_line (Boolean true) = record { all = refl }
scalar_line (Boolean false) = record { all = refl }
scalar_line (Int n) = signed n
scalar_line (Long n) = signed n
scalar_line (Text text) = string_line text
scalar_line (Object id) = id_line id
scalar_line (ReferenceType id) = id_line id
scalar_line (Method id) = id_line id
scalar_line (OfField id) = id_line id
scalar_line (Frame id) = id_line id
scalar_line (Located location) = location_line location
scalar_line (Valued v) = value_line v
scalar_line (Tagged tagged) = tagged_line tagged

entry_line : (entry : List ScalarMeaning) → OneLine (entry_text entry)
entry_line [] = record { all = refl }
entry_line (x ∷ []) = scalar_line x
entry_line (x ∷ y ∷ xs) = in_brackets (codes "(") (codes ")") (listed scalar_text (x ∷ y ∷ xs)) (record { all = refl }) (record { all = refl }) (listed_line scalar_text scalar_line (x ∷ y ∷ xs))

raw_digits : (bytes : List ℕ) → OneLine (codes "raw " ++ encode_lower bytes)
raw_digits bytes = both {a = codes "raw "} (record { all = refl }) (hex bytes)

datum_line : (d : DatumMeaning) → OneLine (datum_text d)
datum_line (One x) = scalar_line x
datum_line (Many entries) = in_brackets (codes "[") (codes "]") (listed entry_text entries) (record { all = refl }) (record { all = refl }) (listed_line entry_text entry_line entries)
datum_line (Elements region) = region_line region
datum_line (Raw bytes) = raw_digits bytes

pub data_line : (items : List DatumMeaning) → OneLine (data_text items)
data_line items = each (λ (d : DatumMeaning). codes " " ++ datum_text d) (λ d. more 32 (datum_text d) refl (datum_line d)) items

pub raw_line : (bytes : List ℕ) → OneLine (raw_text bytes)
raw_line [] = none
raw_line (byte ∷ bytes) = more 32 (codes "raw " ++ encode_lower (byte ∷ bytes)) refl (raw_digits (byte ∷ bytes))

-- ---- names

abbrev names_hold : Row → Bool
names_hold row = list_all is_no_end row.set_name && list_all is_no_end row.name

abbrev all_hold : List (ℕ × Row) → Bool
all_hold rows = list_all (λ (entry : ℕ × Row). names_hold entry.1) rows

-- what is said of each in a table is said of what is found there
found_at : {A : Type 0} (test : A → Bool) (entry : ℕ × A) (later : Option A) (a : A) (is : Bool) → test entry.1 ≡ true → (later ≡ Some a → test a ≡ true) → cond is (Some entry.1) later ≡ Some a → test a ≡ true
found_at test entry later a true here behind found = let same : entry.1 ≡ a = cc in subst (λ x. test x ≡ true) same here
found_at test entry later a false here behind found = behind found

looked_up : {A : Type 0} (test : A → Bool) (number : ℕ) (entries : List (ℕ × A)) (a : A) → list_all (λ (entry : ℕ × A). test entry.1) entries ≡ true → look_up number entries ≡ Some a → test a ≡ true
looked_up test number [] a all found = absurd cc
looked_up test number (entry ∷ entries) a all found =
    found_at test entry (look_up number entries) a (number == entry.0) (first (test entry.1) _ all) (looked_up test number entries a (second (test entry.1) _ all)) found

set_row : (number : ℕ) (o : Option (List (ℕ × Row))) (set : ℕ) (row : Row) → look_up set command_sets ≡ o → row_in number o ≡ Some row → names_hold row ≡ true
set_row number None set row found is = absurd cc
set_row number (Some rows) set row found is = looked_up names_hold number rows row (looked_up all_hold set command_sets rows refl found) is

names_by : (command : CommandNumber) (o : Option Row) → row_at command.set command.number ≡ o → OneLine (name_in o command)
names_by command None found = both (both (number command.set) (record { all = refl })) (number command.number)
names_by command (Some row) found =
    let holds = set_row command.number (look_up command.set command_sets) command.set row refl found in
    let set_name : OneLine row.set_name = record { all = first (list_all is_no_end row.set_name) _ holds } in
    let name : OneLine row.name = record { all = second (list_all is_no_end row.set_name) _ holds } in
    both (both set_name (record { all = refl })) name

pub name_line : (command : CommandNumber) → OneLine (name_text command)
name_line command = names_by command (row_at command.set command.number) refl
