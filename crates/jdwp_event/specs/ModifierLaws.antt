-- What is read of a modifier is what bytes encode, and what is encoded is not refused.
use Rattle.std.specs.Prelude.{◌≡◌, ℕ, List, [], ◌∷◌, ◌++◌, Option, Some, None, refl}
use Rattle.std.proofs.Common.{ap, sym, ◌∙◌, subst, inl, inr, eqb, false}
use Rattle.std.proofs.lemmas.Bool.Decides.{eqb_tells}
use Rattle.std.proofs.lemmas.List.{append-nil}
use Rattle.jdwp_wire.specs.declared.data_fault.DataFault.{DataFault}
use Rattle.jdwp_wire.specs.declared.data_fault.DataFault.TheVariants.{BadTag}
use Rattle.jdwp_wire.specs.Widths.{Widths}
use Rattle.jdwp_wire.specs.Reading.{Encoding, Faults}
use Rattle.jdwp_wire.specs.Sequence.{Is, NoFault, Nothing, Always, Then, FirstFault}
use Rattle.jdwp_wire.specs.Codes.{Codes, seq_codes, give_codes, refuse_codes, codes_as, faults_as}
use Rattle.jdwp_layout.specs.declared.item.Field.{Field}
use Rattle.jdwp_layout.specs.declared.item.Field.TheVariants as field
use Rattle.jdwp_layout.specs.ModifiersAndEvents.{modifier_fields}
use Rattle.jdwp_layout.specs.Shapes.{Modifiers}
use Rattle.jdwp_layout.specs.Meanings.{ScalarMeaning, Byte}
use Rattle.jdwp_layout.specs.Grammar.{EncodesFields, EncodesEntry}
use Rattle.jdwp_layout.specs.EntryLaws.{Held, field_held, entry_codes, entry_unrefused}
use Rattle.jdwp_event.specs.Modifiers.{ModifierMeaning, Count, Conditional, ThreadOnly, ClassOnly, ClassMatch, ClassExclude, LocationOnly, ExceptionOnly, FieldOnly, Step, InstanceOnly, SourceNameMatch, modifier_of}
use Rattle.jdwp_event.specs.ModifierBytes.{modifier_entry, EncodesModifier, modifier_refusal, ModifierFault, give_found, modifier_at}

-- a modifier's entry is that modifier's
pub modifier_again : (m : ModifierMeaning) → modifier_of (modifier_entry m) ≡ Some m
modifier_again (Count n) = refl
modifier_again (Conditional n) = refl
modifier_again (ThreadOnly n) = refl
modifier_again (ClassOnly n) = refl
modifier_again (ClassMatch pattern) = refl
modifier_again (ClassExclude pattern) = refl
modifier_again (LocationOnly location) = refl
modifier_again (ExceptionOnly class caught uncaught) = refl
modifier_again (FieldOnly class field) = refl
modifier_again (Step thread size depth) = refl
modifier_again (InstanceOnly n) = refl
modifier_again (SourceNameMatch pattern) = refl

-- ---- what a modifier's fields hold

abbrev HeldIn : Widths → Field → ScalarMeaning → Type 0
HeldIn w f y = (code : List ℕ) × Held w f y code

one_field : (w : Widths) (f : Field) (ys : List ScalarMeaning) (code : List ℕ) → EncodesFields w (f ∷ []) ys code → (y : ScalarMeaning) × HeldIn w f y × (ys ≡ y ∷ [])
one_field w f [] code s = absurd s
one_field w f (y ∷ []) code (front, back, one, none, e) = (y, (front, field_held w f y front one), refl)
one_field w f (y ∷ z ∷ zs) code (front, back, one, others, e) = absurd others

two_fields : (w : Widths) (f g : Field) (ys : List ScalarMeaning) (code : List ℕ) → EncodesFields w (f ∷ g ∷ []) ys code
    → (y : ScalarMeaning) × (z : ScalarMeaning) × HeldIn w f y × HeldIn w g z × (ys ≡ y ∷ z ∷ [])
two_fields w f g [] code s = absurd s
two_fields w f g (y ∷ ys) code (front, back, one, others, e) =
    let rest = one_field w g ys back others in
    (y, rest.0, (front, field_held w f y front one), rest.1, ap (λ (l : List ScalarMeaning). y ∷ l) rest.2)

three_fields : (w : Widths) (f g h : Field) (ys : List ScalarMeaning) (code : List ℕ) → EncodesFields w (f ∷ g ∷ h ∷ []) ys code
    → (x : ScalarMeaning) × (y : ScalarMeaning) × (z : ScalarMeaning) × HeldIn w f x × HeldIn w g y × HeldIn w h z × (ys ≡ x ∷ y ∷ z ∷ [])
three_fields w f g h [] code s = absurd s
three_fields w f g h (x ∷ ys) code (front, back, one, others, e) =
    let rest = two_fields w g h ys back others in
    (x, rest.0, rest.1, (front, field_held w f x front one), rest.2, rest.3, ap (λ (l : List ScalarMeaning). x ∷ l) rest.4)

-- this entry is a modifier's
abbrev pub IsModifiers : List ScalarMeaning → Type 0
IsModifiers xs = (m : ModifierMeaning) × (xs ≡ modifier_entry m)

-- the fields of a kind, where it has them
abbrev Kept : Widths → ℕ → Type 0
Kept w kind = (fields : List Field) (ys : List ScalarMeaning) (code : List ℕ) → modifier_fields kind ≡ Some fields → EncodesFields w fields ys code → IsModifiers (Byte kind ∷ ys)

-- the fields that were found are these
these : (w : Widths) (found fields : List Field) (ys : List ScalarMeaning) (code : List ℕ) → Some found ≡ Some fields → EncodesFields w fields ys code → EncodesFields w found ys code
these w found fields ys code e s = let same : found ≡ fields = cc in rw same s

one_is : {kind : ℕ} {ys : List ScalarMeaning} {y a : ScalarMeaning} → ys ≡ y ∷ [] → y ≡ a → Byte kind ∷ ys ≡ Byte kind ∷ a ∷ []
one_is all first = rw (all, first) refl

two_are : {kind : ℕ} {ys : List ScalarMeaning} {y z a b : ScalarMeaning} → ys ≡ y ∷ z ∷ [] → y ≡ a → z ≡ b → Byte kind ∷ ys ≡ Byte kind ∷ a ∷ b ∷ []
two_are all first second = rw (all, first, second) refl

three_are : {kind : ℕ} {ys : List ScalarMeaning} {x y z a b c : ScalarMeaning} → ys ≡ x ∷ y ∷ z ∷ [] → x ≡ a → y ≡ b → z ≡ c → Byte kind ∷ ys ≡ Byte kind ∷ a ∷ b ∷ c ∷ []
three_are all first second third = rw (all, first, second, third) refl

kind_1 : (w : Widths) → Kept w 1
kind_1 w fields ys code e s =
    let t = one_field w field.Int ys code (these w (field.Int ∷ []) fields ys code e s) in
    (Count t.1.1.0, one_is t.2 t.1.1.1)

kind_2 : (w : Widths) → Kept w 2
kind_2 w fields ys code e s =
    let t = one_field w field.Int ys code (these w (field.Int ∷ []) fields ys code e s) in
    (Conditional t.1.1.0, one_is t.2 t.1.1.1)

kind_3 : (w : Widths) → Kept w 3
kind_3 w fields ys code e s =
    let t = one_field w field.ObjectId ys code (these w (field.ObjectId ∷ []) fields ys code e s) in
    (ThreadOnly t.1.1.0, one_is t.2 t.1.1.1)

kind_4 : (w : Widths) → Kept w 4
kind_4 w fields ys code e s =
    let t = one_field w field.ReferenceTypeId ys code (these w (field.ReferenceTypeId ∷ []) fields ys code e s) in
    (ClassOnly t.1.1.0, one_is t.2 t.1.1.1)

kind_5 : (w : Widths) → Kept w 5
kind_5 w fields ys code e s =
    let t = one_field w field.String ys code (these w (field.String ∷ []) fields ys code e s) in
    (ClassMatch t.1.1.0, one_is t.2 t.1.1.1)

kind_6 : (w : Widths) → Kept w 6
kind_6 w fields ys code e s =
    let t = one_field w field.String ys code (these w (field.String ∷ []) fields ys code e s) in
    (ClassExclude t.1.1.0, one_is t.2 t.1.1.1)

kind_7 : (w : Widths) → Kept w 7
kind_7 w fields ys code e s =
    let t = one_field w field.Location ys code (these w (field.Location ∷ []) fields ys code e s) in
    (LocationOnly t.1.1.0, one_is t.2 t.1.1.1)

kind_8 : (w : Widths) → Kept w 8
kind_8 w fields ys code e s =
    let t = three_fields w field.ReferenceTypeId field.Boolean field.Boolean ys code (these w (field.ReferenceTypeId ∷ field.Boolean ∷ field.Boolean ∷ []) fields ys code e s) in
    (ExceptionOnly t.3.1.0 t.4.1.0 t.5.1.0, three_are t.6 t.3.1.1 t.4.1.1 t.5.1.1)

kind_9 : (w : Widths) → Kept w 9
kind_9 w fields ys code e s =
    let t = two_fields w field.ReferenceTypeId field.FieldId ys code (these w (field.ReferenceTypeId ∷ field.FieldId ∷ []) fields ys code e s) in
    (FieldOnly t.2.1.0 t.3.1.0, two_are t.4 t.2.1.1 t.3.1.1)

kind_10 : (w : Widths) → Kept w 10
kind_10 w fields ys code e s =
    let t = three_fields w field.ObjectId field.Int field.Int ys code (these w (field.ObjectId ∷ field.Int ∷ field.Int ∷ []) fields ys code e s) in
    (Step t.3.1.0 t.4.1.0 t.5.1.0, three_are t.6 t.3.1.1 t.4.1.1 t.5.1.1)

kind_11 : (w : Widths) → Kept w 11
kind_11 w fields ys code e s =
    let t = one_field w field.ObjectId ys code (these w (field.ObjectId ∷ []) fields ys code e s) in
    (InstanceOnly t.1.1.0, one_is t.2 t.1.1.1)

kind_12 : (w : Widths) → Kept w 12
kind_12 w fields ys code e s =
    let t = one_field w field.String ys code (these w (field.String ∷ []) fields ys code e s) in
    (SourceNameMatch t.1.1.0, one_is t.2 t.1.1.1)

at_kind : (w : Widths) (n kind : ℕ) → kind ≡ n → Kept w n → Kept w kind
at_kind w n kind is law = subst (λ (k : ℕ). Kept w k) (sym is) law

-- a kind above 6
late_kind : (w : Widths) (kind : ℕ) → eqb kind 1 ≡ false → eqb kind 2 ≡ false → eqb kind 3 ≡ false → eqb kind 4 ≡ false → eqb kind 5 ≡ false → eqb kind 6 ≡ false → Kept w kind
late_kind w kind n1 n2 n3 n4 n5 n6 fields ys code e s = elim (eqb_tells kind 7) [
  | inl (a, is) ↦ at_kind w 7 kind is (kind_7 w) fields ys code e s
  | inr (n7, x) ↦ elim (eqb_tells kind 8) [
    | inl (a, is) ↦ at_kind w 8 kind is (kind_8 w) fields ys code e s
    | inr (n8, x) ↦ elim (eqb_tells kind 9) [
      | inl (a, is) ↦ at_kind w 9 kind is (kind_9 w) fields ys code e s
      | inr (n9, x) ↦ elim (eqb_tells kind 10) [
        | inl (a, is) ↦ at_kind w 10 kind is (kind_10 w) fields ys code e s
        | inr (n10, x) ↦ elim (eqb_tells kind 11) [
          | inl (a, is) ↦ at_kind w 11 kind is (kind_11 w) fields ys code e s
          | inr (n11, x) ↦ elim (eqb_tells kind 12) [
            | inl (a, is) ↦ at_kind w 12 kind is (kind_12 w) fields ys code e s
            | inr (n12, x) ↦ (let none = rw (n1, n2, n3, n4, n5, n6, n7, n8, n9, n10, n11, n12) at e in absurd cc)
          ]
        ]
      ]
    ]
  ]
]

each_kind : (w : Widths) (kind : ℕ) → Kept w kind
each_kind w kind fields ys code e s = elim (eqb_tells kind 1) [
  | inl (a, is) ↦ at_kind w 1 kind is (kind_1 w) fields ys code e s
  | inr (n1, x) ↦ elim (eqb_tells kind 2) [
    | inl (a, is) ↦ at_kind w 2 kind is (kind_2 w) fields ys code e s
    | inr (n2, x) ↦ elim (eqb_tells kind 3) [
      | inl (a, is) ↦ at_kind w 3 kind is (kind_3 w) fields ys code e s
      | inr (n3, x) ↦ elim (eqb_tells kind 4) [
        | inl (a, is) ↦ at_kind w 4 kind is (kind_4 w) fields ys code e s
        | inr (n4, x) ↦ elim (eqb_tells kind 5) [
          | inl (a, is) ↦ at_kind w 5 kind is (kind_5 w) fields ys code e s
          | inr (n5, x) ↦ elim (eqb_tells kind 6) [
            | inl (a, is) ↦ at_kind w 6 kind is (kind_6 w) fields ys code e s
            | inr (n6, x) ↦ late_kind w kind n1 n2 n3 n4 n5 n6 fields ys code e s
          ]
        ]
      ]
    ]
  ]
]

-- what is encoded as an entry is a modifier's
pub entry_is : (w : Widths) (xs : List ScalarMeaning) (code : List ℕ) → EncodesEntry w Modifiers xs code → IsModifiers xs
entry_is w xs code (kind, small, (fields, ys, rest, found, s, made, e)) =
    let t = each_kind w kind fields ys rest found s in
    (t.0, made ∙ t.1)

-- ---- reading

abbrev FoundIs : Option ModifierMeaning → Encoding ModifierMeaning
FoundIs None = Nothing
FoundIs (Some m) = Is m

abbrev FoundFault : Option ModifierMeaning → Faults
FoundFault None = Always BadTag
FoundFault (Some m) = NoFault

found_codes : (found : Option ModifierMeaning) → Codes (give_found found) (FoundIs found) (FoundFault found)
found_codes None = refuse_codes BadTag
found_codes (Some m) = give_codes m

abbrev Read : Widths → Encoding ModifierMeaning
Read w = Then (EncodesEntry w Modifiers) (λ entry. FoundIs (modifier_of entry))

-- an entry's modifier was found
pub found_is : (xs : List ScalarMeaning) (m : ModifierMeaning) → xs ≡ modifier_entry m → modifier_of xs ≡ Some m
found_is xs m is = ap (λ (l : List ScalarMeaning). modifier_of l) is ∙ modifier_again m

read_encodes : (w : Widths) (m : ModifierMeaning) (code : List ℕ) → Read w m code → EncodesModifier w m code
read_encodes w m code (entry, front, back, s, found, e) =
    let t = entry_is w entry front s in
    let is : (m ≡ t.0) × (back ≡ []) = subst (λ (o : Option ModifierMeaning). FoundIs o m back) (found_is entry t.0 t.1) found in
    let whole : code ≡ front = e ∙ ap (λ (x : List ℕ). front ++ x) is.1 ∙ append-nil front in
    let of_m : entry ≡ modifier_entry m = t.1 ∙ ap modifier_entry (sym is.0) in
    subst (λ (c : List ℕ). EncodesEntry w Modifiers (modifier_entry m) c) (sym whole) (subst (λ (l : List ScalarMeaning). EncodesEntry w Modifiers l front) of_m s)

encodes_read : (w : Widths) (m : ModifierMeaning) (code : List ℕ) → EncodesModifier w m code → Read w m code
encodes_read w m code s =
    (modifier_entry m, code, [], s, subst (λ (o : Option ModifierMeaning). FoundIs o m []) (sym (modifier_again m)) (refl, refl), sym (append-nil code))

abbrev ReadFault : Widths → ℕ → Faults
ReadFault w whole = FirstFault (EncodesEntry w Modifiers) (ModifierFault w whole) (λ entry. FoundFault (modifier_of entry))

-- once the entry is read, there is no fault
entry_fault : (w : Widths) (whole : ℕ) (bytes : List ℕ) (f : DataFault) → ReadFault w whole bytes f → ModifierFault w whole bytes f
entry_fault w whole bytes f (inl first) = first
entry_fault w whole bytes f (inr (entry, front, back, s, parts, later)) =
    let t = entry_is w entry front s in
    absurd (subst (λ (o : Option ModifierMeaning). FoundFault o back f) (found_is entry t.0 t.1) later)

pub modifier_codes : (w : Widths) (whole : ℕ) → Codes (modifier_at w whole) (EncodesModifier w) (ModifierFault w whole)
modifier_codes w whole = codes_as (EncodesModifier w) (read_encodes w) (encodes_read w)
    (faults_as (ModifierFault w whole) (λ bytes f fits h. entry_fault w whole bytes f h) (λ bytes f h. inl h) (seq_codes (entry_codes w whole Modifiers) (λ entry. found_codes (modifier_of entry))))

pub modifier_unrefused : (w : Widths) (code : List ℕ) (m : ModifierMeaning) → EncodesModifier w m code → modifier_refusal w m ≡ None
modifier_unrefused w code m s = entry_unrefused w Modifiers code (modifier_entry m) s
