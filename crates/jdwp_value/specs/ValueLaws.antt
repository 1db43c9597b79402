-- The readers of values and tagged ids give exactly what bytes encode.
use Rattle.std.specs.Prelude.{◌≡◌, ℕ, ◌<◌, List, [], ◌∷◌, length, None, refl}
use Rattle.std.proofs.Common.{arith, subst}
use Rattle.byteorder.specs.Numbers.{length-bytes_high_first}
use Rattle.jdwp_wire.specs.declared.data_fault.DataFault.TheVariants.{BadTag}
use Rattle.jdwp_wire.specs.Widths.{Widths}
use Rattle.jdwp_wire.specs.Reading.{Encoding}
use Rattle.jdwp_wire.specs.Sequence.{Is, Made, mapped, Nothing}
use Rattle.jdwp_wire.specs.Basic.{EncodesBool}
use Rattle.jdwp_wire.specs.BasicLaws.{bool_codes}
use Rattle.jdwp_wire.specs.Numbers.{EncodesNumber, NumberFault}
use Rattle.jdwp_wire.specs.NumberLaws.{number_codes, id_unrefused}
use Rattle.jdwp_wire.specs.Codes.{Codes, seq_codes, give_codes, mapped_codes, refuse_codes, codes_as, faults_as}
use Rattle.jdwp_value.specs.declared.tag.Tag.{Tag}
use Rattle.jdwp_value.specs.declared.tag.Tag.TheVariants as tag
use Rattle.jdwp_value.specs.declared.value.TaggedId.{TaggedId}
use Rattle.jdwp_value.specs.declared.value.Value.{Value}
use Rattle.jdwp_value.specs.declared.value.Value.TheVariants as value
use Rattle.jdwp_value.specs.Tags.{object_byte, tag_byte}
use Rattle.jdwp_value.specs.TagLaws.{tag_codes}
use Rattle.jdwp_value.specs.Values.{EncodesTaggedId, ObjectValue, ObjectFault, TaggedIdFault, tag_of, width_of, EncodesUntagged, Untagged, untagged_canonical, EncodesValue, value_refusal, ValueFault, object_id, object_at, tagged_id_at, untagged_at, value_at}

-- ---- tagged ids

abbrev ObjectOf : Widths → Tag → Encoding TaggedId
ObjectOf w (tag.Object kind) = Made (object_id kind) (EncodesNumber w.object)
ObjectOf w other = Nothing

object_codes : (w : Widths) (whole : ℕ) (t : Tag) → Codes (object_at w whole t) (ObjectOf w t) (ObjectFault w whole t)
object_codes w whole (tag.Object kind) = mapped_codes (object_id kind) (number_codes w.object whole)
object_codes w whole tag.Byte = refuse_codes BadTag
object_codes w whole tag.Char = refuse_codes BadTag
object_codes w whole tag.Double = refuse_codes BadTag
object_codes w whole tag.Float = refuse_codes BadTag
object_codes w whole tag.Int = refuse_codes BadTag
object_codes w whole tag.Long = refuse_codes BadTag
object_codes w whole tag.Short = refuse_codes BadTag
object_codes w whole tag.Void = refuse_codes BadTag
object_codes w whole tag.Boolean = refuse_codes BadTag

object_is : (w : Widths) (t : Tag) (x : TaggedId) (code : List ℕ) → ObjectOf w t x code → (t ≡ tag.Object x.tag) × EncodesNumber w.object x.id.0 code
object_is w (tag.Object kind) x code (n, is, s) = rw is (refl, s)
object_is w tag.Byte x code h = absurd h
object_is w tag.Char x code h = absurd h
object_is w tag.Double x code h = absurd h
object_is w tag.Float x code h = absurd h
object_is w tag.Int x code h = absurd h
object_is w tag.Long x code h = absurd h
object_is w tag.Short x code h = absurd h
object_is w tag.Void x code h = absurd h
object_is w tag.Boolean x code h = absurd h

pub tagged_id_codes : (w : Widths) (whole : ℕ) → Codes (tagged_id_at w whole) (EncodesTaggedId w) (TaggedIdFault w whole)
tagged_id_codes w whole = codes_as (EncodesTaggedId w)
    (λ x code (t, front, back, front-is, h, e). let is = object_is w t x back h in (back, is.1, rw (e, front-is, is.0) refl))
    (λ x code (rest, s, e). (tag.Object x.tag, object_byte x.tag ∷ [], rest, refl, (x.id.0, refl, s), e))
    (seq_codes (tag_codes whole) (object_codes w whole))

pub tagged_id_unrefused : (w : Widths) (code : List ℕ) (x : TaggedId) → EncodesTaggedId w x code → value_refusal w (value.Object x) ≡ None
tagged_id_unrefused w code x (rest, s, e) = id_unrefused w.object rest x.id.0 s

-- ---- untagged values

-- the values of a tag
abbrev Plain : Widths → Tag → Encoding Value
Plain w tag.Byte = Made (λ n. value.Byte n) (EncodesNumber 1)
Plain w tag.Char = Made (λ n. value.Char n) (EncodesNumber 2)
Plain w tag.Double = Made (λ n. value.Double n) (EncodesNumber 8)
Plain w tag.Float = Made (λ n. value.Float n) (EncodesNumber 4)
Plain w tag.Int = Made (λ n. value.Int n) (EncodesNumber 4)
Plain w tag.Long = Made (λ n. value.Long n) (EncodesNumber 8)
Plain w tag.Short = Made (λ n. value.Short n) (EncodesNumber 2)
Plain w tag.Void = Is value.Void
Plain w tag.Boolean = Made (λ b. value.Boolean b) EncodesBool
Plain w (tag.Object kind) = Made (λ n. value.Object (object_id kind n)) (EncodesNumber w.object)

one_short : (bytes : List ℕ) → length bytes < 1 → bytes ≡ []
one_short [] lt = refl
one_short (b ∷ bytes) lt = absurd (omega arith)

none_short : (bytes : List ℕ) → bytes ≡ [] → length bytes < 1
none_short bytes e = rw e (omega arith)

plain_codes : (w : Widths) (whole : ℕ) (t : Tag) → Codes (untagged_at w whole t) (Plain w t) (NumberFault (width_of w t) whole)
plain_codes w whole tag.Byte = mapped_codes (λ n. value.Byte n) (number_codes 1 whole)
plain_codes w whole tag.Char = mapped_codes (λ n. value.Char n) (number_codes 2 whole)
plain_codes w whole tag.Double = mapped_codes (λ n. value.Double n) (number_codes 8 whole)
plain_codes w whole tag.Float = mapped_codes (λ n. value.Float n) (number_codes 4 whole)
plain_codes w whole tag.Int = mapped_codes (λ n. value.Int n) (number_codes 4 whole)
plain_codes w whole tag.Long = mapped_codes (λ n. value.Long n) (number_codes 8 whole)
plain_codes w whole tag.Short = mapped_codes (λ n. value.Short n) (number_codes 2 whole)
plain_codes w whole tag.Void = faults_as (NumberFault 0 whole) (λ bytes f fits h. absurd h) (λ bytes f h. absurd (let lt = h.1 in omega (arith, lt))) (give_codes value.Void)
plain_codes w whole tag.Boolean = faults_as (NumberFault 1 whole) (λ bytes f fits h. (h.0, none_short bytes h.1)) (λ bytes f h. (h.0, one_short bytes h.1)) (mapped_codes (λ b. value.Boolean b) (bool_codes whole))
plain_codes w whole (tag.Object kind) = mapped_codes (λ n. value.Object (object_id kind n)) (number_codes w.object whole)

plain_untagged : (w : Widths) (t : Tag) (v : Value) (code : List ℕ) → Plain w t v code → Untagged w t v code
plain_untagged w tag.Byte v code (n, is, s) = rw is (refl, s)
plain_untagged w tag.Char v code (n, is, s) = rw is (refl, s)
plain_untagged w tag.Double v code (n, is, s) = rw is (refl, s)
plain_untagged w tag.Float v code (n, is, s) = rw is (refl, s)
plain_untagged w tag.Int v code (n, is, s) = rw is (refl, s)
plain_untagged w tag.Long v code (n, is, s) = rw is (refl, s)
plain_untagged w tag.Short v code (n, is, s) = rw is (refl, s)
plain_untagged w tag.Void v code (is, s) = rw is (refl, s)
plain_untagged w tag.Boolean v code (b, is, s) = rw is (refl, s)
plain_untagged w (tag.Object kind) v code (n, is, s) = rw is (refl, s)

plain_of : (w : Widths) (v : Value) (code : List ℕ) → EncodesUntagged w v code → Plain w (tag_of v) v code
plain_of w (value.Byte n) code s = (n, refl, s)
plain_of w (value.Char n) code s = (n, refl, s)
plain_of w (value.Double n) code s = (n, refl, s)
plain_of w (value.Float n) code s = (n, refl, s)
plain_of w (value.Int n) code s = (n, refl, s)
plain_of w (value.Long n) code s = (n, refl, s)
plain_of w (value.Short n) code s = (n, refl, s)
plain_of w value.Void code s = (refl, s)
plain_of w (value.Boolean b) code s = (b, refl, s)
plain_of w (value.Object x) code s = (x.id.0, refl, s)

pub untagged_codes : (w : Widths) (whole : ℕ) (t : Tag) → Codes (untagged_at w whole t) (Untagged w t) (NumberFault (width_of w t) whole)
untagged_codes w whole t = codes_as (Untagged w t) (plain_untagged w t) (λ v code (is, s). subst (λ (k : Tag). Plain w k v code) is (plain_of w v code s)) (plain_codes w whole t)

-- ---- values

pub value_codes : (w : Widths) (whole : ℕ) → Codes (value_at w whole) (EncodesValue w) (ValueFault w whole)
value_codes w whole = codes_as (EncodesValue w)
    (λ v code (t, front, back, front-is, (is, s), e). (back, s, rw (e, front-is, is) refl))
    (λ v code (rest, s, e). (tag_of v, tag_byte (tag_of v) ∷ [], rest, refl, (refl, s), e))
    (seq_codes (tag_codes whole) (untagged_codes w whole))

pub untagged_unrefused : (w : Widths) (code : List ℕ) (v : Value) → EncodesUntagged w v code → value_refusal w v ≡ None
untagged_unrefused w code (value.Byte n) s = refl
untagged_unrefused w code (value.Char n) s = refl
untagged_unrefused w code (value.Double n) s = refl
untagged_unrefused w code (value.Float n) s = refl
untagged_unrefused w code (value.Int n) s = refl
untagged_unrefused w code (value.Long n) s = refl
untagged_unrefused w code (value.Short n) s = refl
untagged_unrefused w code value.Void s = refl
untagged_unrefused w code (value.Boolean b) s = refl
untagged_unrefused w code (value.Object x) s = id_unrefused w.object code x.id.0 s

pub value_unrefused : (w : Widths) (code : List ℕ) (v : Value) → EncodesValue w v code → value_refusal w v ≡ None
value_unrefused w code v (rest, s, e) = untagged_unrefused w rest v s

pub length-untagged : (w : Widths) (v : Value) → length (untagged_canonical w v) ≡ width_of w (tag_of v)
length-untagged w (value.Byte n) = refl
length-untagged w (value.Char n) = refl
length-untagged w (value.Double n) = refl
length-untagged w (value.Float n) = refl
length-untagged w (value.Int n) = refl
length-untagged w (value.Long n) = refl
length-untagged w (value.Short n) = refl
length-untagged w value.Void = refl
length-untagged w (value.Boolean b) = refl
length-untagged w (value.Object x) = length-bytes_high_first w.object x.id.0

object_back : (w : Widths) (v : Value) (code : List ℕ) → ObjectValue w v code → Made (λ x. value.Object x) (EncodesTaggedId w) v code
object_back w (value.Object x) code (is, s) = (x, refl, s)
object_back w (value.Byte n) code (is, s) = absurd cc
object_back w (value.Char n) code (is, s) = absurd cc
object_back w (value.Double n) code (is, s) = absurd cc
object_back w (value.Float n) code (is, s) = absurd cc
object_back w (value.Int n) code (is, s) = absurd cc
object_back w (value.Long n) code (is, s) = absurd cc
object_back w (value.Short n) code (is, s) = absurd cc
object_back w (value.Boolean n) code (is, s) = absurd cc
object_back w value.Void code (is, s) = absurd cc

-- an object's value is a tagged id
pub object_value_codes : (w : Widths) (whole : ℕ) → Codes (mapped (λ x. value.Object x) (tagged_id_at w whole)) (ObjectValue w) (TaggedIdFault w whole)
object_value_codes w whole = codes_as (ObjectValue w) (λ v code (x, is, s). rw is (refl, s)) (object_back w) (mapped_codes (λ x. value.Object x) (tagged_id_codes w whole))
