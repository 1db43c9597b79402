-- Threads that stand by rising id are stepped in the order in which they stand.
use Rattle.std.proofs.Common.{◌≡◌, ◌∙◌, ℕ, ◌+◌, ◌-◌, ◌<◌, ◌≤◌, ◌++◌, Bool, true, false, List, [], ◌∷◌, length, take, drop, get_or, Option, Some, None, ◌⊎◌, inl, inr, sym, ap, subst, arith}
use Rattle.std.proofs.lemmas.Grind.{common_steps}
use Rattle.std.proofs.lemmas.List.{drop-map, get_or-map, length-drop, length-map, take-append-drop, take-map, take_all}
use Rattle.std.proofs.Math.Numerals.{add-one}
use Rattle.std.proofs.Math.Seq.{drop-cons, take-suc}
use Rattle.jdwp_value.specs.declared.id.ObjectId.{ObjectId}
use Rattle.jdwp_machine.specs.Meanings.{has, numbers}
use Rattle.jdwp_engine.specs.Rounds.{AreBelow, AreRising, IsAhead, IsNext, IsNextThread, is_above}

-- one that is not above the last is not above one that is
below-next : (last : Option ℕ) (t x : ℕ) → is_above last t ≡ false → is_above last x ≡ true → is_above (Some x) t ≡ false
below-next None t x below above = absurd cc
below-next (Some l) t x below above = grind (arith, common_steps, below, above)

not-above-itself : (t : ℕ) → is_above (Some t) t ≡ false
not-above-itself t = grind (arith, common_steps)

-- what stands where

has-split : (xs ys : List ℕ) (id : ℕ) → has (xs ++ ys) id ≡ true → (has xs id ≡ true) ⊎ (has ys id ≡ true)
has-split [] ys id h = inr h
has-split (x ∷ xs) ys id h = grind (arith, common_steps, h, has-split xs ys id)

has-middle : (xs ys : List ℕ) (id : ℕ) → has (xs ++ id ∷ ys) id ≡ true
has-middle [] ys id = grind (arith, common_steps)
has-middle (x ∷ xs) ys id = grind (arith, common_steps, has-middle xs ys id)

pub has-first : (x : ℕ) (xs : List ℕ) (id : ℕ) → has (x ∷ xs) id ≡ true → (id ≡ x) ⊎ (has xs id ≡ true)
has-first x xs id h = grind (arith, common_steps, h)

below-none : (last : Option ℕ) (xs : List ℕ) (id : ℕ) → AreBelow last xs → has xs id ≡ true → is_above last id ≡ false
below-none last [] id below h = absurd (grind (arith, common_steps, h))
below-none last (x ∷ xs) id below h = elim (has-first x xs id h) [ inl is ↦ rw is below.0 | inr there ↦ below-none last xs id below.1 there ]

rising-less : (t : ℕ) (xs : List ℕ) (id : ℕ) → AreRising (Some t) xs → has xs id ≡ true → t ≤ id
rising-less t [] id rising h = absurd (grind (arith, common_steps, h))
rising-less t (x ∷ xs) id rising h = elim (has-first x xs id h) [
  | inl is ↦ grind (arith, common_steps, is, rising.0)
  | inr there ↦ let more = rising-less x xs id rising.1 there in grind (arith, common_steps, more, rising.0)
]

not-both : {b : Bool} → b ≡ true → b ≡ false → ⊥
not-both h k = cc

-- the next one is the first behind those that are not above the last
rising-next : (front back : List ℕ) (last : Option ℕ) (t : ℕ) → AreBelow last front → AreRising last (t ∷ back) → IsNextThread (front ++ t ∷ back) last t
rising-next front back last t below rising = record {
  lives = has-middle front back t;
  above = rising.0;
  least = λ id h a. elim (has-split front (t ∷ back) id h) [
    | inl there ↦ absurd (not-both a (below-none last front id below there))
    | inr behind ↦ elim (has-first t back id behind) [ inl is ↦ grind (arith, common_steps, is) | inr there ↦ rising-less t back id rising.1 there ]
  ];
}

below-more : (last : Option ℕ) (t : ℕ) (xs : List ℕ) → is_above last t ≡ true → AreBelow last xs → AreBelow (Some t) (xs ++ t ∷ [])
below-more last t [] above below = (not-above-itself t, tt)
below-more last t (x ∷ xs) above below = (below-next last x t below.0 above, below-more last t xs above below.1)

-- at a place that there is
take-one : (place : ℕ) (ids : List ℕ) → place < length ids → take (place + 1) ids ≡ take place ids ++ get_or ids place 0 ∷ []
take-one place ids less = ap (λ (n : ℕ). take n ids) (add-one place) ∙ take-suc ids place 0 less

drop-one : (place : ℕ) (ids : List ℕ) → place < length ids → drop place ids ≡ get_or ids place 0 ∷ drop (place + 1) ids
drop-one place ids less = drop-cons ids place 0 less ∙ ap (λ (n : ℕ). get_or ids place 0 ∷ drop n ids) (sym (add-one place))

ids-next : (ids : List ℕ) (last : Option ℕ) (place t : ℕ) → place < length ids → get_or ids place 0 ≡ t → IsAhead ids last (Some place) → IsNextThread ids last t
ids-next ids last place t less is ahead =
    let cut : drop place ids ≡ t ∷ drop (place + 1) ids = drop-one place ids less ∙ ap (λ (x : ℕ). x ∷ drop (place + 1) ids) is in
    let whole : take place ids ++ t ∷ drop (place + 1) ids ≡ ids = ap (λ (xs : List ℕ). take place ids ++ xs) (sym cut) ∙ take-append-drop place ids in
    subst (λ (xs : List ℕ). IsNextThread xs last t) whole
    (rising-next (take place ids) (drop (place + 1) ids) last t ahead.0 (subst (λ (xs : List ℕ). AreRising last xs) cut ahead.1))

ids-after : (ids : List ℕ) (last : Option ℕ) (place t : ℕ) → place < length ids → get_or ids place 0 ≡ t → IsAhead ids last (Some place) → IsAhead ids (Some t) (Some (place + 1))
ids-after ids last place t less is ahead =
    let cut : drop place ids ≡ t ∷ drop (place + 1) ids = drop-one place ids less ∙ ap (λ (x : ℕ). x ∷ drop (place + 1) ids) is in
    let rising : AreRising last (t ∷ drop (place + 1) ids) = subst (λ (xs : List ℕ). AreRising last xs) cut ahead.1 in
    let taken : take (place + 1) ids ≡ take place ids ++ t ∷ [] = take-one place ids less ∙ ap (λ (x : ℕ). take place ids ++ x ∷ []) is in
    (subst (λ (xs : List ℕ). AreBelow (Some t) xs) (sym taken) (below-more last t (take place ids) rising.0 ahead.0), rising.1)

-- ---- the ids of a list of threads

-- the thread at a place that there is
abbrev pub thread_at : List ObjectId → ℕ → ObjectId
thread_at threads place = get_or threads place (record { 0 = 0 })

as-many : (threads : List ObjectId) → length (numbers threads) ≡ length threads
as-many threads = length-map threads (λ (id : ObjectId). id.0)

same-at : (threads : List ObjectId) (place : ℕ) → place < length threads → get_or (numbers threads) place 0 ≡ (thread_at threads place).0
same-at threads place less = get_or-map (λ (id : ObjectId). id.0) threads place (record { 0 = 0 }) 0 less

-- the thread at the place is the next one, and the next place is the one behind it
pub ahead-next : (threads : List ObjectId) (last at : Option ℕ) (place : ℕ) → at ≡ Some place → place < length threads → IsAhead (numbers threads) last at → IsNextThread (numbers threads) last (thread_at threads place).0
ahead-next threads last at place is less ahead =
    ids-next (numbers threads) last place (thread_at threads place).0 (omega (arith, as-many threads, less)) (same-at threads place less) (subst (λ (p : Option ℕ). IsAhead (numbers threads) last p) is ahead)

pub ahead-after : (threads : List ObjectId) (last at : Option ℕ) (place : ℕ) → at ≡ Some place → place < length threads → IsAhead (numbers threads) last at
    → IsAhead (numbers threads) (Some (thread_at threads place).0) (Some (place + 1))
ahead-after threads last at place is less ahead =
    ids-after (numbers threads) last place (thread_at threads place).0 (omega (arith, as-many threads, less)) (same-at threads place less) (subst (λ (p : Option ℕ). IsAhead (numbers threads) last p) is ahead)

-- there is none behind the last place
pub ahead-none : (threads : List ObjectId) (last at : Option ℕ) (place : ℕ) → at ≡ Some place → length threads ≤ place → IsAhead (numbers threads) last at → IsNext (numbers threads) last None
ahead-none threads last at place is more ahead = λ id h.
    let front : IsAhead (numbers threads) last (Some place) = subst (λ (p : Option ℕ). IsAhead (numbers threads) last p) is ahead in
    below-none last (numbers threads) id (subst (λ (xs : List ℕ). AreBelow last xs) (take_all place (numbers threads) (omega (arith, as-many threads, more))) front.0) h

-- those in front are not above the last, and those of the slice behind rise
pub ahead-of : (threads : List ObjectId) (last : Option ℕ) (place : ℕ) → AreBelow last (numbers (take place threads)) → AreRising last (numbers (take (length threads - place) (drop place threads)))
    → IsAhead (numbers threads) last (Some place)
ahead-of threads last place below rising =
    let behind : take (length threads - place) (drop place threads) ≡ drop place threads = take_all (length threads - place) (drop place threads) (omega (arith, length-drop place threads)) in (
      subst (λ (ids : List ℕ). AreBelow last ids) (sym (take-map (λ (id : ObjectId). id.0) place threads)) below,
      subst (λ (ids : List ℕ). AreRising last ids) (ap numbers behind ∙ sym (drop-map (λ (id : ObjectId). id.0) place threads)) rising,
    )

-- one more in front that is not above the last
pub below-end : (last : Option ℕ) (ids : List ℕ) (t : ℕ) → AreBelow last ids → is_above last t ≡ false → AreBelow last (ids ++ t ∷ [])
below-end last [] t below one = (one, tt)
below-end last (x ∷ ids) t below one = (below.0, below-end last ids t below.1 one)

-- one more that rises, in front of those that do
pub rising-from : (threads : List ObjectId) (i : ℕ) (last : Option ℕ) → i < length threads → is_above last (thread_at threads i).0 ≡ true
    → AreRising (Some (thread_at threads i).0) (numbers (drop (i + 1) threads)) → AreRising last (numbers (drop i threads))
rising-from threads i last less above rising =
    let cut : drop i threads ≡ thread_at threads i ∷ drop (i + 1) threads = drop-cons threads i (record { 0 = 0 }) less ∙ ap (λ (n : ℕ). thread_at threads i ∷ drop n threads) (sym (add-one i)) in
    subst (λ (xs : List ObjectId). AreRising last (numbers xs)) (sym cut) (above, rising)
