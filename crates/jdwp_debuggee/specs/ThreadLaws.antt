-- Who lives and with which count, in lists of threads.
use Rattle.std.specs.Prelude.{◌≡◌, ℕ, ◌==◌, Bool, true, false, ◌||◌, cond, nat_le, Some, List, [], ◌∷◌, refl, is_some}
use Rattle.std.proofs.Common.{◌∙◌, ap}
use Rattle.std.specs.Option.{option_map}
use Rattle.std.proofs.lemmas.Bool.{eqb-true}
use Rattle.jdwp_machine.specs.Meanings.{has}
use Rattle.jdwp_debuggee.specs.Answers.{inserted, rising}
use Rattle.jdwp_debuggee.specs.State.{Thread, thread_in, count_by, count_in, with_count, changed, ids, running}

-- a change of all counts changes each
pub count-changed : (f : ℕ → ℕ → ℕ) (ts : List Thread) (t : ℕ) → count_in (changed f ts) t ≡ option_map (f t) (count_in ts t)
count-changed f [] t = refl
count-changed f (p ∷ ps) t =
    elim (p.id == t) as (λ b. (p.id == t) ≡ b → count_by (cond b (Some (with_count f p)) (thread_in (changed f ps) t)) ≡ option_map (f t) (count_by (cond b (Some p) (thread_in ps t)))) [
      | true ↦ λ e. ap (λ u. Some (f u p.suspend_count)) (eqb-true p.id t e)
      | false ↦ λ _. count-changed f ps t
    ] refl

-- a thread lives where it has a count
pub has-count : (ts : List Thread) (t : ℕ) → has (ids ts) t ≡ is_some (count_in ts t)
has-count [] t = refl
has-count (p ∷ ps) t =
    elim (p.id == t) as (λ b. (b || has (ids ps) t) ≡ is_some (count_by (cond b (Some p) (thread_in ps t)))) [
      | true ↦ refl
      | false ↦ has-count ps t
    ]

-- threads that nobody suspends
pub ids-running : (ts : List ℕ) → ids (running ts) ≡ ts
ids-running [] = refl
ids-running (t ∷ ts) = ap (λ l. t ∷ l) (ids-running ts)

pub count-running : (ts : List ℕ) (t n : ℕ) → count_in (running ts) t ≡ Some n → n ≡ 0
count-running [] t n h = absurd (cc)
count-running (u ∷ us) t n h =
    elim (u == t) as (λ b. count_by (cond b (Some (record { id = u; suspend_count = 0; death_reported = false })) (thread_in (running us) t)) ≡ Some n → n ≡ 0) [
      | true ↦ λ e. cc
      | false ↦ λ e. count-running us t n e
    ] h

-- ---- by rising id there are the same threads

swap : (a b c : Bool) → (a || (b || c)) ≡ (b || (a || c))
swap true true c = refl
swap true false c = refl
swap false b c = refl

has-inserted : (n : ℕ) (xs : List ℕ) (t : ℕ) → has (inserted n xs) t ≡ ((n == t) || has xs t)
has-inserted n [] t = refl
has-inserted n (x ∷ xs) t =
    elim (nat_le n x) as (λ b. has (cond b (n ∷ x ∷ xs) (x ∷ inserted n xs)) t ≡ ((n == t) || ((x == t) || has xs t))) [
      | true ↦ refl
      | false ↦ ap (λ b. (x == t) || b) (has-inserted n xs t) ∙ swap (x == t) (n == t) (has xs t)
    ]

pub has-rising : (xs : List ℕ) (t : ℕ) → has (rising xs) t ≡ has xs t
has-rising [] t = refl
has-rising (x ∷ xs) t = has-inserted x (rising xs) t ∙ ap (λ b. (x == t) || b) (has-rising xs t)
