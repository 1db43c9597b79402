-- Proofs about threads: who lives and who has lived after a change, what look-ups find after one, and that ids stay.
use Rattle.std.proofs.Common.{◌≡◌, ◌≢◌, ℕ, ◌==◌, ◌||◌, ◌&&◌, Bool, true, false, not, eqb, if◌then◌else◌, List, [], ◌∷◌, refl, sym, ◌∙◌, ap, Some, option_map, ◌⊎◌, inl, inr}
use Rattle.std.proofs.lemmas.Bool.{eqb-true, eq-eqb, false≢true}
use Rattle.std.specs.List.{list_any, AllByRecursion, IsDistinct}
use Rattle.jdwp_machine.specs.Meanings.{has}
use Rattle.jdwp_script_machine.specs.LookUps.{with_id, changed}
use Rattle.jdwp_script_machine.specs.States.{Life, Waits, Lives, HasEnded, ThreadNow, is_living, has_begun, living, begun}
use Rattle.jdwp_script_machine.specs.Sound.{thread_ids}

pub either : (b : Bool) → (b ≡ true) ⊎ (b ≡ false)
either true = inl refl
either false = inr refl

-- ---- who is in a stage of life

-- whether a thread of this id is in a stage of life that passes the test
abbrev pub in_life : (Life → Bool) → List ThreadNow → ℕ → Bool
in_life test es u = list_any (λ (e : ThreadNow). if test e.life then e.id == u else false) es

abbrev pub has_id : List ThreadNow → ℕ → Bool
has_id es n = list_any (λ (e : ThreadNow). e.id == n) es

pub has_living : (es : List ThreadNow) (u : ℕ) → has (living es) u ≡ in_life is_living es u
has_living [] u = refl
has_living (e ∷ es) u =
    elim (is_living e.life) as (λ (b : Bool). has (if b then e.id ∷ living es else living es) u ≡ ((if b then e.id == u else false) || in_life is_living es u)) [
      | true ↦ ap (λ (r : Bool). (e.id == u) || r) (has_living es u)
      | false ↦ has_living es u
    ]

lives_or_lived : (l : Life) (a : Bool) → (if is_living l then a else false) ≡ true → (if has_begun l then a else false) ≡ true
lives_or_lived Waits a h = h
lives_or_lived Lives a h = h
lives_or_lived HasEnded a h = absurd (false≢true h)

or_keeps : (a b c d : Bool) → (a ≡ true → c ≡ true) → (b ≡ true → d ≡ true) → (a || b) ≡ true → (c || d) ≡ true
or_keeps true b c d f g h = rw (f refl) refl
or_keeps false b true d f g h = refl
or_keeps false b false d f g h = g h

pub living_begun : (es : List ThreadNow) (u : ℕ) → in_life is_living es u ≡ true → begun es u ≡ true
living_begun [] u h = h
living_begun (e ∷ es) u h = or_keeps _ _ _ _ (lives_or_lived e.life (e.id == u)) (living_begun es u) h

-- ---- a change of one thread

-- a change that keeps ids
abbrev pub KeepsIds : (ThreadNow → ThreadNow) → Type 0
KeepsIds change = (e : ThreadNow) → (change e).id ≡ e.id

abbrev pub with_change : ℕ → (ThreadNow → ThreadNow) → List ThreadNow → List ThreadNow
with_change n change es = changed (λ (e : ThreadNow). e.id) n change es

into_here : (a t r h : Bool) → (a || (r || (if h then a else false))) ≡ (((if t then a else false) || r) || a)
into_here true true r h = refl
into_here true false true h = refl
into_here true false false h = refl
into_here false true true h = refl
into_here false true false true = refl
into_here false true false false = refl
into_here false false true h = refl
into_here false false false true = refl
into_here false false false false = refl

pub into_there : (x r h : Bool) → (x || (r || h)) ≡ ((x || r) || h)
into_there true r h = refl
into_there false r h = refl

-- after a change into a stage that passes the test, the changed thread is in it, and the others are as before
pub change_into : (test : Life → Bool) (change : ThreadNow → ThreadNow) → KeepsIds change → ((e : ThreadNow) → test (change e).life ≡ true) → (es : List ThreadNow) (n u : ℕ)
    → in_life test (with_change n change es) u ≡ (in_life test es u || (if has_id es n then n == u else false))
change_into test change ids into [] n u = refl
change_into test change ids into (e ∷ es) n u = elim (either (e.id == n)) [
  | inl h ↦ let same : e.id ≡ n = eqb-true e.id n h in
      rw (h, into e, ids e, change_into test change ids into es n u, same) (into_here (n == u) (test e.life) (in_life test es u) (has_id es n))
  | inr h ↦ rw (h, change_into test change ids into es n u) (into_there (if test e.life then e.id == u else false) (in_life test es u) (if has_id es n then n == u else false))
]

-- after a change that leaves the stage, all is as before
pub change_within : (test : Life → Bool) (change : ThreadNow → ThreadNow) → KeepsIds change → ((e : ThreadNow) → (change e).life ≡ e.life) → (es : List ThreadNow) (n u : ℕ)
    → in_life test (with_change n change es) u ≡ in_life test es u
change_within test change ids same [] n u = refl
change_within test change ids same (e ∷ es) n u = elim (either (e.id == n)) [
  | inl h ↦ rw (h, same e, ids e, change_within test change ids same es n u) refl
  | inr h ↦ rw (h, change_within test change ids same es n u) refl
]

out_here : (a t r : Bool) → (r && not a) ≡ (((if t then a else false) || r) && not a)
out_here true true true = refl
out_here true true false = refl
out_here true false r = refl
out_here false true true = refl
out_here false true false = refl
out_here false false r = refl

out_there : (x a r : Bool) → ((x ≡ true) → a ≡ false) → (x || (r && not a)) ≡ ((x || r) && not a)
out_there true a r f = rw (f refl) refl
out_there false a r f = refl

pub eqb_swap : (a b : ℕ) → eqb a b ≡ eqb b a
eqb_swap a b = elim (either (eqb a b)) [
  | inl h ↦ h ∙ sym (eq-eqb b a (sym (eqb-true a b h)))
  | inr h ↦ elim (either (eqb b a)) [ inl k ↦ absurd (false≢true (sym h ∙ eq-eqb a b (sym (eqb-true b a k)))) | inr k ↦ h ∙ sym k ]
]

other_there : (t : Bool) (x n u : ℕ) → (x == n) ≡ false → (if t then x == u else false) ≡ true → (u == n) ≡ false
other_there true x n u h k = rw (sym (eqb-true x u k)) h
other_there false x n u h k = absurd (false≢true k)

-- after a change out of every stage that passes the test, the changed thread is in none, and the others are as before
pub change_out : (test : Life → Bool) (change : ThreadNow → ThreadNow) → ((e : ThreadNow) → test (change e).life ≡ false) → (es : List ThreadNow) (n u : ℕ)
    → in_life test (with_change n change es) u ≡ (in_life test es u && not (u == n))
change_out test change out [] n u = refl
change_out test change out (e ∷ es) n u = elim (either (e.id == n)) [
  | inl h ↦ let same : e.id ≡ n = eqb-true e.id n h in
      rw (h, out e, change_out test change out es n u, same, eqb_swap u n) (out_here (n == u) (test e.life) (in_life test es u))
  | inr h ↦ rw (h, change_out test change out es n u) (out_there (if test e.life then e.id == u else false) (u == n) (in_life test es u) (other_there (test e.life) e.id n u h))
]

-- ---- ids

pub ids_kept : (change : ThreadNow → ThreadNow) → KeepsIds change → (es : List ThreadNow) (n : ℕ) → thread_ids (with_change n change es) ≡ thread_ids es
ids_kept change ids [] n = refl
ids_kept change ids (e ∷ es) n = elim (either (e.id == n)) [
  | inl h ↦ rw (h, ids e, ids_kept change ids es n) refl
  | inr h ↦ rw (h, ids_kept change ids es n) refl
]

-- ---- look-ups

other_key : (x n u : ℕ) → (x == n) ≡ true → n ≢ u → (x == u) ≡ false
other_key x n u h ne = elim (either (x == u)) [ inl k ↦ absurd (ne (sym (eqb-true x n h) ∙ eqb-true x u k)) | inr k ↦ k ]

pub found_other : {A : Type 0} (key : A → ℕ) (change : A → A) → ((x : A) → key (change x) ≡ key x) → (xs : List A) (n u : ℕ) → n ≢ u → with_id key u (changed key n change xs) ≡ with_id key u xs
found_other key change ids [] n u ne = refl
found_other key change ids (x ∷ xs) n u ne = elim (either (key x == n)) [
  | inl h ↦ let off : (key x == u) ≡ false = other_key (key x) n u h ne in
      rw (h, ids x, off, found_other key change ids xs n u ne) refl
  | inr h ↦ rw (h, found_other key change ids xs n u ne) refl
]

-- what a change leaves of the thread that is found
pub found_same : {B : Type 0} (part : ThreadNow → B) (change : ThreadNow → ThreadNow) → KeepsIds change → ((e : ThreadNow) → part (change e) ≡ part e) → (es : List ThreadNow) (n u : ℕ)
    → option_map part (with_id (λ (e : ThreadNow). e.id) u (with_change n change es)) ≡ option_map part (with_id (λ (e : ThreadNow). e.id) u es)
found_same part change ids same [] n u = refl
found_same part change ids same (e ∷ es) n u = elim (either (e.id == n)) [
  | inl h ↦ elim (either (e.id == u)) [
    | inl k ↦ let l : ((change e).id == u) ≡ true = ap (λ (x : ℕ). x == u) (ids e) ∙ k in rw (h, k, l) (ap (λ x. Some x) (same e))
    | inr k ↦ let l : ((change e).id == u) ≡ false = ap (λ (x : ℕ). x == u) (ids e) ∙ k in rw (h, k, l) (found_same part change ids same es n u)
  ]
  | inr h ↦ elim (either (e.id == u)) [
    | inl k ↦ rw (h, k) refl
    | inr k ↦ rw (h, k) (found_same part change ids same es n u)
  ]
]

-- ---- no two live threads have one id

apart_from_living : (x : ℕ) (es : List ThreadNow) → AllByRecursion (λ (y : ℕ). (x == y) ≡ false) (thread_ids es) → AllByRecursion (λ (y : ℕ). (x == y) ≡ false) (living es)
apart_from_living x [] h = tt
apart_from_living x (e ∷ es) h =
    elim (is_living e.life) as (λ (b : Bool). AllByRecursion (λ (y : ℕ). (x == y) ≡ false) (if b then e.id ∷ living es else living es)) [
      | true ↦ (h.0, apart_from_living x es h.1)
      | false ↦ apart_from_living x es h.1
    ]

pub living_distinct : (es : List ThreadNow) → IsDistinct (λ (a b : ℕ). a == b) (thread_ids es) → IsDistinct (λ (a b : ℕ). a == b) (living es)
unfolding IsDistinct
living_distinct [] h = tt
living_distinct (e ∷ es) h =
    elim (is_living e.life) as (λ (b : Bool). IsDistinct (λ (a b : ℕ). a == b) (if b then e.id ∷ living es else living es)) [
      | true ↦ (apart_from_living e.id es h.0, living_distinct es h.1)
      | false ↦ living_distinct es h.1
    ]
