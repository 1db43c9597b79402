-- What is read of a field or an entry is what bytes encode, the fault that is answered is the first, and what is encoded is not refused.
use Rattle.std.specs.Prelude.{◌≡◌, ℕ, List, [], ◌∷◌, Option, Some, None, refl}
use Rattle.std.proofs.Common.{subst}
use Rattle.jdwp_wire.specs.declared.data_fault.DataFault.{DataFault}
use Rattle.jdwp_wire.specs.declared.data_fault.DataFault.TheVariants.{BadTag}
use Rattle.jdwp_wire.specs.Widths.{Widths}
use Rattle.jdwp_wire.specs.Reading.{Encoding}
use Rattle.jdwp_wire.specs.Sequence.{Made}
use Rattle.jdwp_wire.specs.Basic.{EncodesByte, EncodesBool, EncodesInt, EncodesLong}
use Rattle.jdwp_wire.specs.BasicLaws.{byte_codes, bool_codes, int_codes, long_codes}
use Rattle.jdwp_wire.specs.Numbers.{EncodesNumber}
use Rattle.jdwp_wire.specs.NumberLaws.{number_codes, id_unrefused}
use Rattle.jdwp_wire.specs.Text.{EncodesText}
use Rattle.jdwp_wire.specs.TextLaws.{text_codes, text_unrefused}
use Rattle.jdwp_wire.specs.Each.{EncodesEach}
use Rattle.jdwp_wire.specs.EachLaws.{each_codes}
use Rattle.jdwp_wire.specs.Codes.{Codes, seq_codes, mapped_codes, refuse_codes, codes_as}
use Rattle.jdwp_value.specs.Locations.{EncodesLocation}
use Rattle.jdwp_value.specs.LocationLaws.{location_codes, location_unrefused}
use Rattle.jdwp_value.specs.Values.{EncodesTaggedId, EncodesValue}
use Rattle.jdwp_value.specs.ValueLaws.{tagged_id_codes, tagged_id_unrefused, value_codes, value_unrefused}
use Rattle.jdwp_layout.specs.declared.item.Field.{Field}
use Rattle.jdwp_layout.specs.declared.item.Field.TheVariants as field
use Rattle.jdwp_layout.specs.ModifiersAndEvents.{modifier_fields, event_fields}
use Rattle.jdwp_layout.specs.Shapes.{EntryShape, Fields, Modifiers, Events}
use Rattle.jdwp_layout.specs.Meanings.{ScalarMeaning, Byte, Boolean, Int, Long, Text, Object, ReferenceType, Method, OfField, Frame, Located, Valued, Tagged}
use Rattle.jdwp_layout.specs.Grammar.{kind_of, EncodesScalar, EncodesField, FieldFault, EncodesFields, FieldsFault, EncodesKind, FieldsOfFault, KindFault, EncodesEntry, EntryFault}
use Rattle.jdwp_layout.specs.Reads.{field_at, fields_at, fields_of_at, kind_at, entry_at}
use Rattle.jdwp_layout.specs.Writes.{each_refusal, field_refusal, kind_refusal, entry_refusal}

-- ---- fields

-- what a field of this kind holds
abbrev pub Held : Widths → Field → Encoding ScalarMeaning
Held w field.Byte = Made (λ n. Byte n) EncodesByte
Held w field.Boolean = Made (λ b. Boolean b) EncodesBool
Held w field.Int = Made (λ z. Int z) EncodesInt
Held w field.Long = Made (λ z. Long z) EncodesLong
Held w field.String = Made (λ s. Text s) EncodesText
Held w field.ObjectId = Made (λ n. Object n) (EncodesNumber w.object)
Held w field.ReferenceTypeId = Made (λ n. ReferenceType n) (EncodesNumber w.reference)
Held w field.MethodId = Made (λ n. Method n) (EncodesNumber w.method)
Held w field.FieldId = Made (λ n. OfField n) (EncodesNumber w.field)
Held w field.FrameId = Made (λ n. Frame n) (EncodesNumber w.frame)
Held w field.Location = Made (λ p. Located p) (EncodesLocation w)
Held w field.Value = Made (λ v. Valued v) (EncodesValue w)
Held w field.TaggedId = Made (λ t. Tagged t) (EncodesTaggedId w)

held_codes : (w : Widths) (whole : ℕ) (f : Field) → Codes (field_at w whole f) (Held w f) (FieldFault w whole f)
held_codes w whole field.Byte = mapped_codes (λ n. Byte n) (byte_codes whole)
held_codes w whole field.Boolean = mapped_codes (λ b. Boolean b) (bool_codes whole)
held_codes w whole field.Int = mapped_codes (λ z. Int z) (int_codes whole)
held_codes w whole field.Long = mapped_codes (λ z. Long z) (long_codes whole)
held_codes w whole field.String = mapped_codes (λ s. Text s) (text_codes whole)
held_codes w whole field.ObjectId = mapped_codes (λ n. Object n) (number_codes w.object whole)
held_codes w whole field.ReferenceTypeId = mapped_codes (λ n. ReferenceType n) (number_codes w.reference whole)
held_codes w whole field.MethodId = mapped_codes (λ n. Method n) (number_codes w.method whole)
held_codes w whole field.FieldId = mapped_codes (λ n. OfField n) (number_codes w.field whole)
held_codes w whole field.FrameId = mapped_codes (λ n. Frame n) (number_codes w.frame whole)
held_codes w whole field.Location = mapped_codes (λ p. Located p) (location_codes w whole)
held_codes w whole field.Value = mapped_codes (λ v. Valued v) (value_codes w whole)
held_codes w whole field.TaggedId = mapped_codes (λ t. Tagged t) (tagged_id_codes w whole)

held_encoded : (w : Widths) (f : Field) (x : ScalarMeaning) (code : List ℕ) → Held w f x code → EncodesField w f x code
held_encoded w field.Byte x code (n, is, h) = rw is (refl, h)
held_encoded w field.Boolean x code (b, is, h) = rw is (refl, h)
held_encoded w field.Int x code (z, is, h) = rw is (refl, h)
held_encoded w field.Long x code (z, is, h) = rw is (refl, h)
held_encoded w field.String x code (s, is, h) = rw is (refl, h)
held_encoded w field.ObjectId x code (n, is, h) = rw is (refl, h)
held_encoded w field.ReferenceTypeId x code (n, is, h) = rw is (refl, h)
held_encoded w field.MethodId x code (n, is, h) = rw is (refl, h)
held_encoded w field.FieldId x code (n, is, h) = rw is (refl, h)
held_encoded w field.FrameId x code (n, is, h) = rw is (refl, h)
held_encoded w field.Location x code (p, is, h) = rw is (refl, h)
held_encoded w field.Value x code (v, is, h) = rw is (refl, h)
held_encoded w field.TaggedId x code (t, is, h) = rw is (refl, h)

held_of : (w : Widths) (x : ScalarMeaning) (code : List ℕ) → EncodesScalar w x code → Held w (kind_of x) x code
held_of w (Byte n) code h = (n, refl, h)
held_of w (Boolean b) code h = (b, refl, h)
held_of w (Int z) code h = (z, refl, h)
held_of w (Long z) code h = (z, refl, h)
held_of w (Text s) code h = (s, refl, h)
held_of w (Object n) code h = (n, refl, h)
held_of w (ReferenceType n) code h = (n, refl, h)
held_of w (Method n) code h = (n, refl, h)
held_of w (OfField n) code h = (n, refl, h)
held_of w (Frame n) code h = (n, refl, h)
held_of w (Located p) code h = (p, refl, h)
held_of w (Valued v) code h = (v, refl, h)
held_of w (Tagged t) code h = (t, refl, h)

-- an encoded value is one that its field holds
pub field_held : (w : Widths) (f : Field) (x : ScalarMeaning) (code : List ℕ) → EncodesField w f x code → Held w f x code
field_held w f x code (is, s) = subst (λ (k : Field). Held w k x code) is (held_of w x code s)

pub field_codes : (w : Widths) (whole : ℕ) (f : Field) → Codes (field_at w whole f) (EncodesField w f) (FieldFault w whole f)
field_codes w whole f = codes_as (EncodesField w f) (held_encoded w f) (field_held w f) (held_codes w whole f)

pub fields_codes : (w : Widths) (whole : ℕ) (fields : List Field) → Codes (fields_at w whole fields) (EncodesFields w fields) (FieldsFault w whole fields)
fields_codes w whole fields = each_codes (field_codes w whole) fields

-- ---- modifiers, events and entries

abbrev Behind : Widths → ℕ → Option (List Field) → Encoding (List ScalarMeaning)
Behind w kind found xs code = (fields : List Field) × (ys : List ScalarMeaning) × (found ≡ Some fields) × EncodesFields w fields ys code × (xs ≡ Byte kind ∷ ys)

behind_codes : (w : Widths) (whole kind : ℕ) (found : Option (List Field)) → Codes (fields_of_at w whole kind found) (Behind w kind found) (FieldsOfFault w whole found)
behind_codes w whole kind None = codes_as (Behind w kind None) (λ xs code h. absurd h) (λ xs code (fields, ys, is, s, made). absurd cc) (refuse_codes BadTag)
behind_codes w whole kind (Some fields) = codes_as (Behind w kind (Some fields))
    (λ xs code (ys, made, s). (fields, ys, refl, s, made))
    (λ xs code (others, ys, is, s, made). let same : fields ≡ others = cc in (ys, made, rw same s))
    (mapped_codes (λ ys. Byte kind ∷ ys) (fields_codes w whole fields))

pub kind_codes : (w : Widths) (whole : ℕ) (fields_of : ℕ → Option (List Field)) → Codes (kind_at w whole fields_of) (EncodesKind w fields_of) (KindFault w whole fields_of)
kind_codes w whole fields_of = codes_as (EncodesKind w fields_of)
    (λ xs code (kind, front, back, (small, front-is), (fields, ys, found, s, made), e). (kind, small, (fields, ys, back, found, s, made, rw (e, front-is) refl)))
    (λ xs code (kind, small, (fields, ys, rest, found, s, made, e)). (kind, kind ∷ [], rest, (small, refl), (fields, ys, found, s, made), e))
    (seq_codes (byte_codes whole) (λ kind. behind_codes w whole kind (fields_of kind)))

pub entry_codes : (w : Widths) (whole : ℕ) (entry : EntryShape) → Codes (entry_at w whole entry) (EncodesEntry w entry) (EntryFault w whole entry)
entry_codes w whole (Fields fields) = fields_codes w whole fields
entry_codes w whole Modifiers = kind_codes w whole modifier_fields
entry_codes w whole Events = kind_codes w whole event_fields

-- ---- what bytes encode is not refused

pub scalar_unrefused : (w : Widths) (code : List ℕ) (x : ScalarMeaning) → EncodesScalar w x code → field_refusal w (kind_of x) x ≡ None
scalar_unrefused w code (Byte n) h = refl
scalar_unrefused w code (Boolean b) h = refl
scalar_unrefused w code (Int z) h = refl
scalar_unrefused w code (Long z) h = refl
scalar_unrefused w code (Text s) h = text_unrefused code s h
scalar_unrefused w code (Object n) h = id_unrefused w.object code n h
scalar_unrefused w code (ReferenceType n) h = id_unrefused w.reference code n h
scalar_unrefused w code (Method n) h = id_unrefused w.method code n h
scalar_unrefused w code (OfField n) h = id_unrefused w.field code n h
scalar_unrefused w code (Frame n) h = id_unrefused w.frame code n h
scalar_unrefused w code (Located p) h = location_unrefused w code p h
scalar_unrefused w code (Valued v) h = value_unrefused w code v h
scalar_unrefused w code (Tagged t) h = tagged_id_unrefused w code t h

pub field_unrefused : (w : Widths) (f : Field) (code : List ℕ) (x : ScalarMeaning) → EncodesField w f x code → field_refusal w f x ≡ None
field_unrefused w f code x (is, s) = subst (λ (k : Field). field_refusal w k x ≡ None) is (scalar_unrefused w code x s)

pub each_unrefused : {A X : Type 0} (encodes : A → Encoding X) (refusal : A → X → Option DataFault) → ((k : A) (code : List ℕ) (x : X) → encodes k x code → refusal k x ≡ None)
    → (ks : List A) (xs : List X) (code : List ℕ) → EncodesEach encodes ks xs code → each_refusal refusal ks xs ≡ None
each_unrefused encodes refusal law [] [] code s = refl
each_unrefused encodes refusal law [] (x ∷ xs) code s = absurd s
each_unrefused encodes refusal law (k ∷ ks) [] code s = absurd s
each_unrefused encodes refusal law (k ∷ ks) (x ∷ xs) code (front, back, one, others, e) =
    let first = law k front x one in
    let rest = each_unrefused encodes refusal law ks xs back others in
    rw (first, rest) refl

kind_unrefused : (w : Widths) (fields_of : ℕ → Option (List Field)) (code : List ℕ) (xs : List ScalarMeaning) → EncodesKind w fields_of xs code → kind_refusal w fields_of xs ≡ None
kind_unrefused w fields_of code xs (kind, small, (fields, ys, rest, found, s, made, e)) = rw (made, found) (each_unrefused (EncodesField w) (field_refusal w) (field_unrefused w) fields ys rest s)

pub entry_unrefused : (w : Widths) (entry : EntryShape) (code : List ℕ) (xs : List ScalarMeaning) → EncodesEntry w entry xs code → entry_refusal w entry xs ≡ None
entry_unrefused w (Fields fields) code xs s = each_unrefused (EncodesField w) (field_refusal w) (field_unrefused w) fields xs code s
entry_unrefused w Modifiers code xs s = kind_unrefused w modifier_fields code xs s
entry_unrefused w Events code xs s = kind_unrefused w event_fields code xs s
