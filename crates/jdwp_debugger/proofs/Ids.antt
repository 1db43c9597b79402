-- Among more ids than there are commands that wait for replies, one is free.
use Rattle.std.proofs.Common.{◌≡◌, ℕ, ◌+◌, ◌-◌, ◌<◌, ◌≤◌, ◌^◌, ◌%◌, ◌==◌, ◌||◌, Bool, true, false, List, [], ◌∷◌, length, map, refl, sym, ap, subst, ◌∙◌, arith, inl, inr, true≢false}
use Rattle.std.specs.List.{list_any}
use Rattle.std.proofs.Math.Dec.{eqb}
use Rattle.std.proofs.lemmas.Bool.{cases_lt, eq-eqb, eqb-true, or_right}
use Rattle.std.proofs.lemmas.List.{length-map}
use Rattle.std.proofs.lemmas.Map.Steps.{le-length_from_below}
use Rattle.jdwp_debugger.specs.Debuggers.{Asked}
use Rattle.jdwp_debugger.specs.Asking.{id_after, is_outstanding}

-- how far an id is from another, counted upwards
abbrev pub distance : ℕ → ℕ → ℕ
distance from id = (id + (2 ^ 32 - from)) % 2 ^ 32

pub distance_is : (from n : ℕ) → from < 2 ^ 32 → n < 2 ^ 32 → distance from (id_after from n) ≡ n
distance_is from n small below = omega arith

abbrev pub distances : ℕ → List Asked → List ℕ
distances from pending = map (λ (p : Asked). distance from p.id) pending

same_distance : (from n id : ℕ) → from < 2 ^ 32 → n < 2 ^ 32 → (id == id_after from n) ≡ true → eqb n (distance from id) ≡ true
same_distance from n id small below same =
    let at : id ≡ id_after from n = eqb-true id (id_after from n) same in
    eq-eqb n (distance from id) (sym (ap (distance from) at ∙ distance_is from n small below))

pub is_at_distance : (from n : ℕ) → from < 2 ^ 32 → n < 2 ^ 32 → (pending : List Asked) → is_outstanding pending (id_after from n) ≡ true → list_any (eqb n) (distances from pending) ≡ true
is_at_distance from n small below [] none = absurd (true≢false (sym none))
is_at_distance from n small below (p ∷ ps) found = by (p.id == id_after from n) refl (is_at_distance from n small below ps) found
  where
    by : (b : Bool) → (p.id == id_after from n) ≡ b
        → (is_outstanding ps (id_after from n) ≡ true → list_any (eqb n) (distances from ps) ≡ true)
        → (b || is_outstanding ps (id_after from n)) ≡ true → (eqb n (distance from p.id) || list_any (eqb n) (distances from ps)) ≡ true
    by true same rest more = rw (same_distance from n p.id small below same) refl
    by false other rest more = or_right (eqb n (distance from p.id)) (list_any (eqb n) (distances from ps)) (rest more)

-- each of so many ids is taken
abbrev pub AreTaken : List Asked → ℕ → ℕ → Type 0
AreTaken pending from count = (n : ℕ) → n < count → is_outstanding pending (id_after from n) ≡ true

taken_are_few : (pending : List Asked) (from count : ℕ) → from < 2 ^ 32 → count ≤ 2 ^ 31 → AreTaken pending from count → count ≤ length pending
taken_are_few pending from count small few taken =
    let all = le-length_from_below (distances from pending) count (λ q below. is_at_distance from q small (omega (arith, below, few)) pending (taken q below)) in
    omega (arith, all, length-map pending (λ (p : Asked). distance from p.id))

-- all of them are taken, and so the next is not
pub next_is_free : (pending : List Asked) (from : ℕ) → from < 2 ^ 32 → length pending < 2 ^ 31 → AreTaken pending from (length pending) → is_outstanding pending (id_after from (length pending)) ≡ false
next_is_free pending from small few others = by (is_outstanding pending (id_after from (length pending))) refl
  where
    by : (b : Bool) → is_outstanding pending (id_after from (length pending)) ≡ b → is_outstanding pending (id_after from (length pending)) ≡ false
    by false free = free
    by true taken =
        let all = taken_are_few pending from (length pending + 1) small (omega (arith, few)) (λ n below. elim (cases_lt n (length pending)) [
          | inl less ↦ others n less
          | inr most ↦ (let last : length pending ≡ n = omega (arith, below, most) in subst (λ (m : ℕ). is_outstanding pending (id_after from m) ≡ true) last taken)
        ]) in
        absurd (omega (arith, all))
