-- Look-ups in what was changed, left out and added.
use Rattle.std.proofs.Common.{◌≡◌, ℕ, Bool, true, false, ◌||◌, ◌&&◌, not, List, [], ◌∷◌, ◌++◌, refl, ◌∙◌, ap, sym, Option, Some, None, is_some, if◌then◌else◌}
use Rattle.std.specs.Prelude.{◌==◌}
use Rattle.std.specs.Option.{option_map}
use Rattle.std.proofs.lemmas.Bool.Decides.{nat_tests}
use Rattle.std.proofs.Common.{arith}
use Rattle.jdwp_value.specs.declared.id.ObjectId.{ObjectId}
use Rattle.jdwp_mirror.specs.declared.threads.Known.{Known}
use Rattle.jdwp_mirror.specs.declared.threads.Lesson.{Lesson}
use Rattle.jdwp_mirror.specs.Mirror.{is_positive}
use Rattle.jdwp_mirror.specs.KnownThreads.{count_in, is_held_in, count_by, shown_by, taught_by, all_taught, without, only, unseen_thread, AreDistinct, HeldHaveCounts, AreSound}

pub same_from : (a b : ℕ) → (a == b) ≡ true → a ≡ b
same_from a b e = grind (arith, nat_tests)

pub eq-self : (a : ℕ) → (a == a) ≡ true
eq-self a = grind (arith, nat_tests)

-- ---- changed

pub count-taught : (l : Lesson) (ks : List Known) (t : ℕ) → count_in (all_taught l ks) t ≡ option_map (count_by l t) (count_in ks t)
count-taught l [] t = refl
count-taught l (k ∷ ks) t =
    elim (k.id.0 == t) as (λ b. (k.id.0 == t) ≡ b → (if b then Some (count_by l k.id.0 k.count) else count_in (all_taught l ks) t) ≡ option_map (count_by l t) (if b then Some k.count else count_in ks t)) [
      | true ↦ λ e. ap (λ (u : ℕ). Some (count_by l u k.count)) (same_from k.id.0 t e)
      | false ↦ λ e. count-taught l ks t
    ] refl

pub held-taught : (l : Lesson) (ks : List Known) (t : ℕ) → is_held_in (all_taught l ks) t ≡ (is_positive (option_map (count_by l t) (count_in ks t)) && (shown_by l t || is_held_in ks t))
held-taught l [] t = refl
held-taught l (k ∷ ks) t =
    elim (k.id.0 == t) as (λ b. (k.id.0 == t) ≡ b → (if b then (taught_by l k).held else is_held_in (all_taught l ks) t) ≡ (is_positive (option_map (count_by l t) (if b then Some k.count else count_in ks t)) && (shown_by l t || (if b then k.held else is_held_in ks t)))) [
      | true ↦ λ e. ap (λ (u : ℕ). not (count_by l u k.count == 0) && (shown_by l u || k.held)) (same_from k.id.0 t e)
      | false ↦ λ e. held-taught l ks t
    ] refl

-- ---- left out

either_none : (b : Bool) → count_in [] 0 ≡ (if b then count_in [] 0 else None)
either_none true = refl
either_none false = refl

pub count-only : (test : ℕ → Bool) (ks : List Known) (t : ℕ) → count_in (only test ks) t ≡ (if test t then count_in ks t else None)
count-only test [] t = either_none (test t)
count-only test (k ∷ ks) t =
    elim (k.id.0 == t) as (λ b. (k.id.0 == t) ≡ b → count_in (only test (k ∷ ks)) t ≡ (if test t then (if b then Some k.count else count_in ks t) else None)) [
      | true ↦ λ e.
          let same : k.id.0 ≡ t = same_from k.id.0 t e in
          elim (test k.id.0) as (λ b. test k.id.0 ≡ b → count_in (if b then k ∷ only test ks else only test ks) t ≡ (if test t then Some k.count else None)) [
            | true ↦ λ f. rw (e, sym (ap test same) ∙ f) refl
            | false ↦ λ f. rw (sym (ap test same) ∙ f) (count-only test ks t ∙ rw (sym (ap test same) ∙ f) refl)
          ] refl
      | false ↦ λ e.
          elim (test k.id.0) as (λ b. count_in (if b then k ∷ only test ks else only test ks) t ≡ (if test t then count_in ks t else None)) [
            | true ↦ rw e (count-only test ks t)
            | false ↦ count-only test ks t
          ]
    ] refl

pub held-only : (test : ℕ → Bool) (ks : List Known) (t : ℕ) → is_held_in (only test ks) t ≡ (test t && is_held_in ks t)
held-only test [] t = elim (test t) as (λ b. false ≡ (b && false)) [ true ↦ refl | false ↦ refl ]
held-only test (k ∷ ks) t =
    elim (k.id.0 == t) as (λ b. (k.id.0 == t) ≡ b → is_held_in (only test (k ∷ ks)) t ≡ (test t && (if b then k.held else is_held_in ks t))) [
      | true ↦ λ e.
          let same : k.id.0 ≡ t = same_from k.id.0 t e in
          elim (test k.id.0) as (λ b. test k.id.0 ≡ b → is_held_in (if b then k ∷ only test ks else only test ks) t ≡ (test t && k.held)) [
            | true ↦ λ f. rw (e, sym (ap test same) ∙ f) refl
            | false ↦ λ f. rw (sym (ap test same) ∙ f) (held-only test ks t ∙ rw (sym (ap test same) ∙ f) refl)
          ] refl
      | false ↦ λ e.
          elim (test k.id.0) as (λ b. is_held_in (if b then k ∷ only test ks else only test ks) t ≡ (test t && is_held_in ks t)) [
            | true ↦ rw e (held-only test ks t)
            | false ↦ held-only test ks t
          ]
    ] refl

-- ---- added

pub count-added : (ks : List Known) (k : Known) (t : ℕ) → count_in (ks ++ k ∷ []) t ≡ (if is_some (count_in ks t) then count_in ks t else (if k.id.0 == t then Some k.count else None))
count-added [] k t = refl
count-added (j ∷ ks) k t =
    elim (j.id.0 == t) as (λ b. (if b then Some j.count else count_in (ks ++ k ∷ []) t) ≡ (if is_some (if b then Some j.count else count_in ks t) then (if b then Some j.count else count_in ks t) else (if k.id.0 == t then Some k.count else None))) [
      | true ↦ refl
      | false ↦ count-added ks k t
    ]

pub count-pushed : (id : ObjectId) (ks : List Known) (t : ℕ) → count_in (ks ++ unseen_thread id ∷ []) t ≡ (if is_some (count_in ks t) then count_in ks t else (if id.0 == t then Some 0 else None))
count-pushed id ks t = count-added ks (unseen_thread id) t

pub held-pushed : (id : ObjectId) (ks : List Known) (t : ℕ) → is_held_in (ks ++ unseen_thread id ∷ []) t ≡ is_held_in ks t
held-pushed id [] t = elim (id.0 == t) as (λ b. (if b then false else false) ≡ false) [ true ↦ refl | false ↦ refl ]
held-pushed id (k ∷ ks) t =
    elim (k.id.0 == t) as (λ b. (if b then k.held else is_held_in (ks ++ unseen_thread id ∷ []) t) ≡ (if b then k.held else is_held_in ks t)) [
      | true ↦ refl
      | false ↦ held-pushed id ks t
    ]

-- ---- what holds of them goes on

distinct-taught : (l : Lesson) (ks : List Known) → AreDistinct ks → AreDistinct (all_taught l ks)
distinct-taught l [] d = tt
distinct-taught l (k ∷ ks) d = (count-taught l ks k.id.0 ∙ ap (λ (n : Option ℕ). option_map (count_by l k.id.0) n) d.0, distinct-taught l ks d.1)

pub and_twice : (a b : Bool) → (a && b) ≡ (a && (a && b))
and_twice true b = refl
and_twice false b = refl

counted-taught : (l : Lesson) (ks : List Known) → HeldHaveCounts (all_taught l ks)
counted-taught l [] = tt
counted-taught l (k ∷ ks) = (and_twice (not (count_by l k.id.0 k.count == 0)) (shown_by l k.id.0 || k.held), counted-taught l ks)

pub sound-taught : (l : Lesson) (ks : List Known) → AreSound ks → AreSound (all_taught l ks)
sound-taught l ks s = record { distinct = distinct-taught l ks s.distinct; counted = counted-taught l ks }

if_has : (P : List Known → Type 0) (b : Bool) (xs ys : List Known) → P xs → P ys → P (if b then xs else ys)
if_has P true xs ys p q = p
if_has P false xs ys p q = q

pub none_either : (b : Bool) (n : Option ℕ) → n ≡ None → (if b then n else None) ≡ None
none_either true n e = e
none_either false n e = refl

distinct-only : (test : ℕ → Bool) (ks : List Known) → AreDistinct ks → AreDistinct (only test ks)
distinct-only test [] d = tt
distinct-only test (k ∷ ks) d =
    if_has AreDistinct (test k.id.0) (k ∷ only test ks) (only test ks) (count-only test ks k.id.0 ∙ none_either (test k.id.0) (count_in ks k.id.0) d.0, distinct-only test ks d.1) (distinct-only test ks d.1)

counted-only : (test : ℕ → Bool) (ks : List Known) → HeldHaveCounts ks → HeldHaveCounts (only test ks)
counted-only test [] h = tt
counted-only test (k ∷ ks) h = if_has HeldHaveCounts (test k.id.0) (k ∷ only test ks) (only test ks) (h.0, counted-only test ks h.1) (counted-only test ks h.1)

pub sound-only : (test : ℕ → Bool) (ks : List Known) → AreSound ks → AreSound (only test ks)
sound-only test ks s = record { distinct = distinct-only test ks s.distinct; counted = counted-only test ks s.counted }

pub sound-without : (t : ℕ) (ks : List Known) → AreSound ks → AreSound (without t ks)
sound-without t ks s = sound-only (λ u. not (u == t)) ks s

none_unless : (b : Bool) (n m : Option ℕ) → n ≡ None → m ≡ None → (if b then n else m) ≡ None
none_unless true n m e f = e
none_unless false n m e f = f

pub other_of : (b : Bool) (n : ℕ) (m : Option ℕ) → (if b then Some n else m) ≡ None → b ≡ false
other_of true n m e = cc
other_of false n m e = refl

pub rest_of : (b : Bool) (n : ℕ) (m : Option ℕ) → (if b then Some n else m) ≡ None → m ≡ None
rest_of true n m e = cc
rest_of false n m e = e

pub turned : (a b : ℕ) → (a == b) ≡ false → (b == a) ≡ false
turned a b e = grind (arith, nat_tests)

distinct-added : (ks : List Known) (k : Known) → count_in ks k.id.0 ≡ None → AreDistinct ks → AreDistinct (ks ++ k ∷ [])
distinct-added [] k e d = (refl, tt)
distinct-added (j ∷ ks) k e d =
    let other : (k.id.0 == j.id.0) ≡ false = turned j.id.0 k.id.0 (other_of (j.id.0 == k.id.0) j.count (count_in ks k.id.0) e) in
    let unknown : count_in (ks ++ k ∷ []) j.id.0 ≡ None = count-added ks k j.id.0 ∙ rw (d.0, other) refl in
    (unknown, distinct-added ks k (rest_of (j.id.0 == k.id.0) j.count (count_in ks k.id.0) e) d.1)

counted-added : (ks : List Known) (k : Known) → HeldHaveCounts ks → k.held ≡ (not (k.count == 0) && k.held) → HeldHaveCounts (ks ++ k ∷ [])
counted-added [] k h e = (e, tt)
counted-added (j ∷ ks) k h e = (h.0, counted-added ks k h.1 e)

pub sound-added : (ks : List Known) (k : Known) → count_in ks k.id.0 ≡ None → k.held ≡ (not (k.count == 0) && k.held) → AreSound ks → AreSound (ks ++ k ∷ [])
sound-added ks k e h s = record { distinct = distinct-added ks k e s.distinct; counted = counted-added ks k s.counted h }

-- what is held is known with a count above 0
pub held-is : (ks : List Known) (t : ℕ) → HeldHaveCounts ks → is_held_in ks t ≡ (is_positive (count_in ks t) && is_held_in ks t)
held-is [] t h = refl
held-is (k ∷ ks) t h =
    elim (k.id.0 == t) as (λ b. (if b then k.held else is_held_in ks t) ≡ (is_positive (if b then Some k.count else count_in ks t) && (if b then k.held else is_held_in ks t))) [
      | true ↦ h.0
      | false ↦ held-is ks t h.1
    ]
