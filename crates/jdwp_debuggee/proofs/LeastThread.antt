-- The least thread is live, and no live thread has a lower id.
use Rattle.std.proofs.Common.{◌≡◌, ◌≢◌, ◌∙◌, ◌||◌, ℕ, ◌≤◌, ◌<◌, Bool, true, false, cond, eqb, nat_le, List, [], ◌∷◌, Some, IsSome, refl, sym, ap, subst, arith}
use Rattle.std.specs.List.{AllByRecursion}
use Rattle.std.proofs.lemmas.Bool.{leb-true, leb-false, eq-eqb}
use Rattle.jdwp_machine.specs.Meanings.{has}
use Rattle.jdwp_debuggee.specs.Answers.{IsLeastThread, first_of, inserted, least_thread, rising}
use Rattle.jdwp_debuggee.specs.State.{State, Thread, count_by, count_in, ids, thread_in}
use Rattle.jdwp_debuggee.specs.ThreadLaws.{has-rising}

-- ---- the first of a list by rising id

first-le : (n : ℕ) (xs : List ℕ) → first_of (inserted n xs) ≤ n
first-le n [] = omega arith
first-le n (x ∷ xs) = elim (nat_le n x) as (λ b. nat_le n x ≡ b → first_of (cond b (n ∷ x ∷ xs) (x ∷ inserted n xs)) ≤ n) [
  | true ↦ λ e. omega arith
  | false ↦ λ e. let h : x < n = leb-false n x e in omega arith
] refl

first-next : (n x : ℕ) (xs : List ℕ) → first_of (inserted n (x ∷ xs)) ≤ x
first-next n x xs = elim (nat_le n x) as (λ b. nat_le n x ≡ b → first_of (cond b (n ∷ x ∷ xs) (x ∷ inserted n xs)) ≤ x) [
  | true ↦ λ e. let h : n ≤ x = leb-true n x e in omega arith
  | false ↦ λ e. omega arith
] refl

shape : (n : ℕ) (xs : List ℕ) → (rest : List ℕ) × (inserted n xs ≡ first_of (inserted n xs) ∷ rest)
shape n [] = ([], refl)
shape n (x ∷ xs) = elim (nat_le n x) as (λ b. (rest : List ℕ) × (cond b (n ∷ x ∷ xs) (x ∷ inserted n xs) ≡ first_of (cond b (n ∷ x ∷ xs) (x ∷ inserted n xs)) ∷ rest)) [
  | true ↦ (x ∷ xs, refl)
  | false ↦ (inserted n xs, refl)
]

weaker : (a b : ℕ) (ts : List Thread) → a ≤ b → AllByRecursion (λ (t : Thread). b ≤ t.id) ts → AllByRecursion (λ (t : Thread). a ≤ t.id) ts
weaker a b [] le all = tt
weaker a b (t ∷ ts) le all = let h : b ≤ t.id = all.0 in (omega arith, weaker a b ts le all.1)

all-above : (ts : List Thread) → AllByRecursion (λ (t : Thread). first_of (rising (ids ts)) ≤ t.id) ts
all-above [] = tt
all-above (t ∷ []) = (first-le t.id [], tt)
all-above (t ∷ u ∷ us) =
    let later : List ℕ = inserted u.id (rising (ids us)) in
    let s = shape u.id (rising (ids us)) in
    let le : first_of (inserted t.id later) ≤ first_of later = subst (λ (xs : List ℕ). first_of (inserted t.id xs) ≤ first_of later) (sym s.1) (first-next t.id (first_of later) s.0) in
    (first-le t.id later, weaker (first_of (inserted t.id later)) (first_of later) (u ∷ us) le (all-above (u ∷ us)))

-- ---- it is live

has-first : (n : ℕ) (xs : List ℕ) → has (inserted n xs) (first_of (inserted n xs)) ≡ true
has-first n xs =
    let s = shape n xs in
    let first : ℕ = first_of (inserted n xs) in
    subst (λ (ys : List ℕ). has ys first ≡ true) (sym s.1) (ap (λ (b : Bool). b || has s.0 first) (eq-eqb first first refl))

has-count : (ts : List Thread) (t : ℕ) → has (ids ts) t ≡ true → IsSome (count_in ts t)
has-count [] t e = absurd cc
has-count (u ∷ us) t e = elim (eqb u.id t) as (λ b. (b || has (ids us) t) ≡ true → IsSome (count_by (cond b (Some u) (thread_in us t)))) [
  | true ↦ λ h. refl
  | false ↦ λ h. has-count us t h
] e

least-lives : (ts : List Thread) → ts ≢ [] → IsSome (count_in ts (first_of (rising (ids ts))))
least-lives [] some = absurd (some refl)
least-lives (t ∷ ts) some =
    let first : ℕ = first_of (rising (ids (t ∷ ts))) in
    has-count (t ∷ ts) first (sym (has-rising (ids (t ∷ ts)) first) ∙ has-first t.id (rising (ids ts)))

pub least-is : (state : State) → state.threads ≢ [] → IsLeastThread state.threads (least_thread state)
least-is state some = (least-lives state.threads some, all-above state.threads)
