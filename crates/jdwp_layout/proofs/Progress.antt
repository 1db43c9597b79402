-- Writing one item after another, as a loop does: what was written so far, and what is left.
use Rattle.std.proofs.Common.{◌≡◌, ℕ, ◌≤◌, ◌<◌, ◌-◌, List, [], ◌∷◌, ◌++◌, length, get_or, take, drop, map, Option, Some, None, refl, sym, ap, subst, ◌∙◌, append_assoc, arith}
use Rattle.std.specs.List.{flat_map}
use Rattle.std.proofs.lemmas.List.{length-append, take_at, take_all, take-take}
use Rattle.jdwp_wire.specs.declared.data_fault.DataFault.{DataFault}
use Rattle.jdwp_wire.specs.declared.data_fault.DataFault.TheVariants.{Short, BadTag, NegativeCount, NotUtf8, BadSize, IdTooWide, NoMemory, Extra}
use Rattle.jdwp_wire.specs.Reading.{Encoding, Refused, first_of_two}
use Rattle.jdwp_wire.specs.Each.{EncodesEach, EncodesAll}
use Rattle.jdwp_wire.specs.Listed.{first_refusal}
use Rattle.jdwp_layout.specs.Writes.{each_refusal}

-- the first refusal of what is left is that of all
pub refused_along : (e : DataFault) (left all : Option DataFault) → left ≡ all → Refused e left → Refused e all
refused_along (Short n) left all is r = sym is ∙ r
refused_along (Extra n) left all is r = sym is ∙ r
refused_along BadTag left all is r = sym is ∙ r
refused_along NegativeCount left all is r = sym is ∙ r
refused_along NotUtf8 left all is r = sym is ∙ r
refused_along BadSize left all is r = sym is ∙ r
refused_along IdTooWide left all is r = sym is ∙ r
refused_along NoMemory left all is r = tt

-- the refusal of the first of two is that of both
pub refused_first : (e : DataFault) (first second : Option DataFault) → Refused e first → Refused e (first_of_two first second)
refused_first (Short n) first second r = rw r refl
refused_first (Extra n) first second r = rw r refl
refused_first BadTag first second r = rw r refl
refused_first NegativeCount first second r = rw r refl
refused_first NotUtf8 first second r = rw r refl
refused_first BadSize first second r = rw r refl
refused_first IdTooWide first second r = rw r refl
refused_first NoMemory first second r = tt

-- what stood there before still does
pub kept_through : (old code now new : List ℕ) → now ≡ old ++ code → take (length now) new ≡ now → take (length old) new ≡ old
kept_through old code now new is kept =
    let fewer : length old ≤ length now = (let both = ap (λ (x : List ℕ). length x) is ∙ length-append old code in omega (arith, both)) in
    sym (take-take (length old) (length now) new fewer) ∙ ap (take (length old)) (kept ∙ is) ∙ take_at old code (length old) refl

-- ---- the front of a list that is not empty, as a pattern takes it

pub rest_is : {T : Type 0} (left : List T) (v : T) → 1 ≤ length left → v ≡ get_or left 0 v → left ≡ v ∷ take (length left - 1) (drop 1 left)
rest_is [] v some is = absurd (omega arith)
rest_is {T = T} (y ∷ ys) v some is =
    let e : length (y ∷ ys) - 1 ≡ length ys = omega arith in
    rw (e, take_all (length ys) ys (omega arith)) (ap (λ (x : T). x ∷ ys) (sym is))

pub meanings_are : {T X : Type 0} (meaning : T → X) (left : List T) (v : T) → 1 ≤ length left → v ≡ get_or left 0 v → map meaning left ≡ meaning v ∷ map meaning (take (length left - 1) (drop 1 left))
meanings_are meaning left v some is = ap (map meaning) (rest_is left v some is)

pub none_left : {T X : Type 0} (meaning : T → X) (left : List T) → length left < 1 → map meaning left ≡ []
none_left meaning [] none = refl
none_left meaning (y ∷ ys) none = absurd (omega arith)

-- Of all that is to be written after `old`, `left` is still to be written after `now`.
pub record Progress {S : Type 0} (encodes : S → List ℕ → Type 0) (canonical : S → List ℕ) (refusal : S → Option DataFault) (all : S) (old : List ℕ) (left : S) (now : List ℕ) : Type 0 where
  pub code : List ℕ
  pub written : now ≡ old ++ code
  pub canonical_is : canonical all ≡ code ++ canonical left
  pub encoded : (more : List ℕ) → encodes left more → encodes all (code ++ more)
  pub refused : refusal left ≡ refusal all

module _ {S : Type 0} (encodes : S → List ℕ → Type 0) (canonical : S → List ℕ) (refusal : S → Option DataFault) (all : S) (old : List ℕ) where
  pub go_on : (left next : S) (now new one : List ℕ) → canonical left ≡ one ++ canonical next → ((more : List ℕ) → encodes next more → encodes left (one ++ more)) → refusal left ≡ refusal next
      → new ≡ now ++ one → Progress encodes canonical refusal all old left now → Progress encodes canonical refusal all old next new
  go_on left next now new one canonical_step encodes_step refusal_step step p = record {
    code = p.code ++ one;
    written = step ∙ ap (λ (x : List ℕ). x ++ one) p.written ∙ append_assoc old p.code one;
    canonical_is = p.canonical_is ∙ ap (λ (x : List ℕ). p.code ++ x) canonical_step ∙ sym (append_assoc p.code one (canonical next));
    encoded = λ more s. subst (λ (x : List ℕ). encodes all x) (sym (append_assoc p.code one more)) (p.encoded (one ++ more) (encodes_step more s));
    refused = sym refusal_step ∙ p.refused;
  }

  pub kept : (left : S) (now new : List ℕ) → take (length now) new ≡ now → Progress encodes canonical refusal all old left now → take (length old) new ≡ old
  kept left now new before p = kept_through old p.code now new p.written before

  pub stands : (left : S) (now : List ℕ) → Progress encodes canonical refusal all old left now → take (length old) now ≡ old
  stands left now p = ap (take (length old)) p.written ∙ take_at old p.code (length old) refl

-- ---- one value for each key

abbrev pub EachProgress : {A X : Type 0} → (A → Encoding X) → (X → List ℕ) → (A → X → Option DataFault) → List A → List X → List ℕ → List A → List X → List ℕ → Type 0
EachProgress {A = A} {X = X} encodes canonical refusal ks xs old ks_left xs_left now =
    Progress {S = List A × List X} (λ s. EncodesEach encodes s.0 s.1) (λ s. flat_map canonical s.1) (λ s. each_refusal refusal s.0 s.1) (ks, xs) old (ks_left, xs_left) now

module _ {A X : Type 0} (encodes : A → Encoding X) (canonical : X → List ℕ) (refusal : A → X → Option DataFault) (ks : List A) (xs : List X) (old : List ℕ) where
  abbrev all_encodes : List A × List X → List ℕ → Type 0
  all_encodes s code = EncodesEach encodes s.0 s.1 code

  abbrev all_canonical : List A × List X → List ℕ
  all_canonical s = flat_map canonical s.1

  abbrev all_refusal : List A × List X → Option DataFault
  all_refusal s = each_refusal refusal s.0 s.1

  pub each_go_on : (k : A) (ks_left : List A) (x : X) (xs_left : List X) (now new : List ℕ) → encodes k x (canonical x) → refusal k x ≡ None → new ≡ now ++ canonical x
      → EachProgress encodes canonical refusal ks xs old (k ∷ ks_left) (x ∷ xs_left) now → EachProgress encodes canonical refusal ks xs old ks_left xs_left new
  each_go_on k ks_left x xs_left now new one none step p =
      go_on all_encodes all_canonical all_refusal (ks, xs) old (k ∷ ks_left, x ∷ xs_left) (ks_left, xs_left) now new (canonical x) refl (λ more s. (canonical x, more, one, s, refl)) (rw none refl) step p

  pub each_stands : (ks_left : List A) (xs_left : List X) (now : List ℕ) → EachProgress encodes canonical refusal ks xs old ks_left xs_left now → take (length old) now ≡ old
  each_stands ks_left xs_left now p = stands all_encodes all_canonical all_refusal (ks, xs) old (ks_left, xs_left) now p

  pub each_same : (ks_left : List A) (xs_left : List X) (ks_next : List A) (xs_next : List X) (now : List ℕ) → ks_left ≡ ks_next → xs_left ≡ xs_next
      → EachProgress encodes canonical refusal ks xs old ks_left xs_left now → EachProgress encodes canonical refusal ks xs old ks_next xs_next now
  each_same ks_left xs_left ks_next xs_next now keys values p =
      subst (λ (l : List X). EachProgress encodes canonical refusal ks xs old ks_next l now) values (subst (λ (l : List A). EachProgress encodes canonical refusal ks xs old l xs_left now) keys p)

  -- a value is missing
  pub each_short : (k : A) (ks_left : List A) (now : List ℕ) → EachProgress encodes canonical refusal ks xs old (k ∷ ks_left) [] now → each_refusal refusal ks xs ≡ Some BadSize
  each_short k ks_left now p = sym p.refused

  pub each_kept : (ks_left : List A) (xs_left : List X) (now new : List ℕ) → take (length now) new ≡ now → EachProgress encodes canonical refusal ks xs old ks_left xs_left now → take (length old) new ≡ old
  each_kept ks_left xs_left now new before p = kept all_encodes all_canonical all_refusal (ks, xs) old (ks_left, xs_left) now new before p

  pub each_stop : (e : DataFault) (k : A) (ks_left : List A) (x : X) (xs_left : List X) (now : List ℕ) → Refused e (refusal k x) → EachProgress encodes canonical refusal ks xs old (k ∷ ks_left) (x ∷ xs_left) now → Refused e (each_refusal refusal ks xs)
  each_stop e k ks_left x xs_left now r p = refused_along e (first_of_two (refusal k x) (each_refusal refusal ks_left xs_left)) (each_refusal refusal ks xs) p.refused (refused_first e (refusal k x) (each_refusal refusal ks_left xs_left) r)

-- ---- values of one kind

abbrev pub AllProgress : {X : Type 0} → Encoding X → (X → List ℕ) → (X → Option DataFault) → List X → List ℕ → List X → List ℕ → Type 0
AllProgress {X = X} encodes canonical refusal xs old xs_left now =
    Progress {S = List X} (EncodesAll encodes) (flat_map canonical) (first_refusal refusal) xs old xs_left now

module _ {X : Type 0} (encodes : Encoding X) (canonical : X → List ℕ) (refusal : X → Option DataFault) (xs : List X) (old : List ℕ) where
  pub all_go_on : (x : X) (xs_left : List X) (now new : List ℕ) → encodes x (canonical x) → refusal x ≡ None → new ≡ now ++ canonical x
      → AllProgress encodes canonical refusal xs old (x ∷ xs_left) now → AllProgress encodes canonical refusal xs old xs_left new
  all_go_on x xs_left now new one none step p =
      go_on (EncodesAll encodes) (flat_map canonical) (first_refusal refusal) xs old (x ∷ xs_left) xs_left now new (canonical x) refl (λ more s. (canonical x, more, one, s, refl)) (rw none refl) step p

  pub all_kept : (xs_left : List X) (now new : List ℕ) → take (length now) new ≡ now → AllProgress encodes canonical refusal xs old xs_left now → take (length old) new ≡ old
  all_kept xs_left now new before p = kept (EncodesAll encodes) (flat_map canonical) (first_refusal refusal) xs old xs_left now new before p

  pub all_stop : (e : DataFault) (x : X) (xs_left : List X) (now : List ℕ) → Refused e (refusal x) → AllProgress encodes canonical refusal xs old (x ∷ xs_left) now → Refused e (first_refusal refusal xs)
  all_stop e x xs_left now r p = refused_along e (first_of_two (refusal x) (first_refusal refusal xs_left)) (first_refusal refusal xs) p.refused (refused_first e (refusal x) (first_refusal refusal xs_left) r)
