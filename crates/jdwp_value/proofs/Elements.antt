-- The loops over the elements of a region.
use Rattle.std.proofs.Common.{◌≡◌, ℕ, zero, suc, ◌+◌, ◌*◌, ◌<◌, ◌^◌, ◌&&◌, List, [], ◌∷◌, length, get_or, take, drop, Bool, true, false, cond, ltb, inl, inr, Option, Some, None, Result, Ok, Err, refl, sym, ap, subst, ◌∙◌, arith}
use Rattle.std.specs.List.{list_all, flat_map}
use Rattle.std.specs.Option.{SomeIff}
use Rattle.std.specs.Result.{IfOk}
use Rattle.std.proofs.Math.Nat.{zero-mul, suc-mul}
use Rattle.std.proofs.lemmas.Bool.{eqb-true, eq-eqb, lt-ltb, ltb-true, cases_Bool}
use Rattle.jdwp_wire.specs.Bytes.{IsBytes}
use Rattle.jdwp_wire.specs.Reading.{in_usize, Gives}
use Rattle.jdwp_value.specs.declared.tag.Tag.TheVariants as tag
use Rattle.std.proofs.lemmas.List.{map-id, drop_more, length-append}
use Rattle.jdwp_wire.specs.declared.data_fault.DataFault.{DataFault}
use Rattle.jdwp_wire.specs.Widths.{Widths}
use Rattle.jdwp_wire.specs.Reading.{Encoding}
use Rattle.jdwp_wire.specs.Each.{EncodesAll}
use Rattle.jdwp_wire.specs.Listed.{first_refusal}
use Rattle.jdwp_wire.proofs.Puts.{encoded_more, refusal_more}
use Rattle.jdwp_value.specs.declared.tag.Tag.{Tag}
use Rattle.jdwp_value.specs.declared.value.Value.{Value}
use Rattle.jdwp_value.specs.Tags.{tag_byte}
use Rattle.jdwp_value.specs.TagLaws.{tag_byte-injective}
use Rattle.jdwp_value.specs.Values.{tag_of, width_of, is_object, is_void, untagged_canonical, untagged_at}
use Rattle.jdwp_value.specs.ValueLaws.{length-untagged, untagged_codes}
use Rattle.jdwp_value.specs.Regions.{may_stand, is_region, element_canonical_by, element_canonical, element_width_by, element_width, region_canonical, region_of}

both_true : (a b : Bool) → (a && b) ≡ true → (a ≡ true) × (b ≡ true)
both_true true b e = (refl, e)
both_true false b e = absurd cc

module _ {X : Type 0} where
  -- what holds of all holds of one
  pub one_of_all : (test : X → Bool) (xs : List X) (i : ℕ) (x : X) → i < length xs → x ≡ get_or xs i x → list_all test xs ≡ true → test x ≡ true
  one_of_all test [] i x lt is all = absurd (omega arith)
  one_of_all test (y ∷ ys) zero x lt is all = ap test is ∙ (both_true (test y) (list_all test ys) all).0
  one_of_all test (y ∷ ys) (suc i) x lt is all = one_of_all test ys i x (omega arith) is (both_true (test y) (list_all test ys) all).1

  drop_is : (xs : List X) (i : ℕ) (x : X) → i < length xs → x ≡ get_or xs i x → drop i xs ≡ x ∷ drop (i + 1) xs
  drop_is xs i x lt is = drop_more xs i x lt ∙ ap (λ (y : X). y ∷ drop (i + 1) xs) (sym is)

  -- one more passes
  pub all_go_on : (test : X → Bool) (xs : List X) (i : ℕ) (x : X) (total : Bool) → i < length xs → x ≡ get_or xs i x → test x ≡ true → list_all test (drop i xs) ≡ total → list_all test (drop (i + 1) xs) ≡ total
  all_go_on test xs i x total lt is pass so_far =
      let one : list_all test (drop i xs) ≡ list_all test (drop (i + 1) xs) = rw (drop_is xs i x lt is, pass) refl in
      sym one ∙ so_far

  pub all_end : (test : X → Bool) (xs : List X) (i : ℕ) (x : X) (total : Bool) → i < length xs → x ≡ get_or xs i x → test x ≡ false → list_all test (drop i xs) ≡ total → total ≡ false
  all_end test xs i x total lt is fail so_far =
      let one : list_all test (drop i xs) ≡ false = rw (drop_is xs i x lt is, fail) refl in
      sym so_far ∙ one

  pub encoded_next : (encodes : Encoding X) (canonical : X → List ℕ) (xs : List X) (i : ℕ) (x : X) → i < length xs → x ≡ get_or xs i x → EncodesAll encodes (take i xs) (flat_map canonical (take i xs)) → encodes x (canonical x)
      → EncodesAll encodes (take (i + 1) xs) (flat_map canonical (take (i + 1) xs))
  encoded_next encodes canonical xs i x lt is so_far one =
      let before = subst (λ (ys : List X). EncodesAll encodes ys (flat_map canonical (take i xs))) (sym (map-id (take i xs))) so_far in
      subst (λ (ys : List X). EncodesAll encodes ys (flat_map canonical (take (i + 1) xs))) (map-id (take (i + 1) xs)) (encoded_more (λ (y : X). y) encodes canonical xs i x lt is before one)

  pub refusal_next : (refusal : X → Option DataFault) (xs : List X) (i : ℕ) (x : X) → i < length xs → x ≡ get_or xs i x → refusal x ≡ None → first_refusal refusal (drop i xs) ≡ first_refusal refusal (drop (i + 1) xs)
  refusal_next refusal xs i x lt is none =
      ap (first_refusal refusal) (sym (map-id (drop i xs))) ∙ refusal_more (λ (y : X). y) refusal xs i x lt is none ∙ ap (first_refusal refusal) (map-id (drop (i + 1) xs))

-- ---- elements

-- in a region of no objects an element has the region's tag
pub tag_is : (t : Tag) (v : Value) → is_object t ≡ false → may_stand t v ≡ true → tag_of v ≡ t
tag_is t v plain fits = tag_byte-injective (tag_of v) t (eqb-true (tag_byte (tag_of v)) (tag_byte t) (rw plain at fits))

-- in a region of objects an element is an object
pub object_is : (t : Tag) (v : Value) → is_object t ≡ true → may_stand t v ≡ true → is_object (tag_of v) ≡ true
object_is t v object fits = rw object at fits

-- what is read without a tag may stand in a region of no objects
pub read_may_stand : {S : Type 0} (items : S → List ℕ) (w : Widths) (whole : ℕ) (t : Tag) (bytes : List ℕ) (r : Result (Value × S) DataFault) → IsBytes bytes → is_object t ≡ false
    → Gives (λ x. (x.0, items x.1)) r (untagged_at w whole t bytes) → IfOk r (λ x. may_stand t x.0 ≡ true)
read_may_stand items w whole t bytes (Ok x) fits plain gives =
    let found = (untagged_codes w whole t).found bytes x.0 (items x.1) fits gives in
    let same : tag_of x.0 ≡ t = found.1.0 in
    rw (plain, same) (eq-eqb (tag_byte t) (tag_byte t) refl)
read_may_stand items w whole t bytes (Err e) fits plain gives = tt

object_width : (w : Widths) (t : Tag) → is_object t ≡ true → width_of w t ≡ w.object
object_width w (tag.Object kind) e = refl
object_width w tag.Byte e = absurd cc
object_width w tag.Char e = absurd cc
object_width w tag.Double e = absurd cc
object_width w tag.Float e = absurd cc
object_width w tag.Int e = absurd cc
object_width w tag.Long e = absurd cc
object_width w tag.Short e = absurd cc
object_width w tag.Void e = absurd cc
object_width w tag.Boolean e = absurd cc

length-element : (w : Widths) (t : Tag) (v : Value) (b : Bool) → is_object t ≡ b → may_stand t v ≡ true → length (element_canonical_by b w v) ≡ element_width_by b w t
length-element w t v false plain fits = length-untagged w v ∙ ap (width_of w) (tag_is t v plain fits)
length-element w t v true object fits =
    let same : length (untagged_canonical w v) ≡ width_of w t = length-untagged w v ∙ object_width w (tag_of v) (object_is t v object fits) ∙ sym (object_width w t object) in
    omega (arith, same)

length-elements : (w : Widths) (t : Tag) (vs : List Value) → list_all (may_stand t) vs ≡ true → length (flat_map (element_canonical w t) vs) ≡ length vs * element_width w t
length-elements w t [] all = sym (zero-mul (element_width w t))
length-elements w t (v ∷ vs) all =
    let both = both_true (may_stand t v) (list_all (may_stand t) vs) all in
    let first = length-element w t v (is_object t) refl both.0 in
    let rest = length-elements w t vs both.1 in
    let sum = length-append (element_canonical w t v) (flat_map (element_canonical w t) vs) in
    let more = suc-mul (length vs) (element_width w t) in
    omega (arith, first, rest, sum, more)

fit : (t : Tag) (vs : List Value) (b : Bool) → cond b false (list_all (may_stand t) vs) ≡ true → list_all (may_stand t) vs ≡ true
fit t vs true e = absurd cc
fit t vs false e = e

-- how many bytes a region has
pub length-region : (w : Widths) (t : Tag) (vs : List Value) → is_region t vs ≡ true → length (region_canonical w (region_of t vs)) ≡ length vs * element_width w t + 5
length-region w t vs region =
    let all = length-elements w t vs (fit t vs (is_void t) region) in
    omega (arith, all)

-- a sum that a usize does not hold
pub past_usize : (n : ℕ) → (n < 2 ^ 64 → ⊥) → in_usize n ≡ None
past_usize n past = elim (cases_Bool (ltb n (2 ^ 64))) [
  | inl less ↦ absurd (past (ltb-true n (2 ^ 64) less))
  | inr not ↦ rw not refl
]

within_usize : (r : Option ℕ) (n : ℕ) → SomeIff r (n < 2 ^ 64) n → r ≡ in_usize n
within_usize None n past = sym (past_usize n past)
within_usize (Some m) n (lt, is) = rw (is, lt-ltb n (2 ^ 64) lt) refl

module _ (w : Widths) (t : Tag) (vs : List Value) (n e : ℕ) (region : is_region t vs ≡ true) (n-is : n ≡ length vs) (e-is : e ≡ element_width w t) where
  pub size_past : (n * e < 2 ^ 64 → ⊥) → in_usize (length (region_canonical w (region_of t vs))) ≡ None
  size_past past =
      let len = length-region w t vs region in
      past_usize (length (region_canonical w (region_of t vs))) (λ lt. past (rw (n-is, e-is) (omega (arith, len, lt))))

  pub size_within : (p : ℕ) (r : Option ℕ) → p ≡ n * e → SomeIff r (p + 5 < 2 ^ 64) (p + 5) → r ≡ in_usize (length (region_canonical w (region_of t vs)))
  size_within p r p-is h =
      let len = length-region w t vs region in
      let same : p + 5 ≡ length (region_canonical w (region_of t vs)) = (let q : p ≡ length vs * element_width w t = rw (p-is, n-is, e-is) refl in omega (arith, q, len)) in
      within_usize r (p + 5) h ∙ ap in_usize same
