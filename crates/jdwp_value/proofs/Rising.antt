-- Things by rising id are the same things, and their ids rise.
use Rattle.std.proofs.Common.{ℕ, zero, suc, ◌≤◌, ◌<◌, List, [], ◌∷◌, length, get_or, nat_le, true, false, cond, inl, inr, arith}
use Rattle.std.specs.List.{AllByRecursion}
use Rattle.std.specs.List.Sorted.{IsPermutation, IsNonDecreasingBy}
use Rattle.std.proofs.lemmas.Bool.{cases_Bool, leb-true, leb-false}
use Rattle.std.proofs.lemmas.List.Sorted.{IsPermutation-refl, IsPermutation-cons, IsPermutation-trans, IsPermutation-middle}
use Rattle.jdwp_value.specs.Rising.{put_in, rising}

-- ---- the same ones

same-put : {A : Type 0} (key : A → ℕ) (x : A) (ys : List A) → IsPermutation (x ∷ ys) (put_in key x ys)
same-put key x [] = IsPermutation-refl (x ∷ [])
same-put key x (y ∷ ys) = elim (nat_le (key x) (key y)) as (λ b. IsPermutation (x ∷ y ∷ ys) (cond b (x ∷ y ∷ ys) (y ∷ put_in key x ys))) [
  | true ↦ IsPermutation-refl (x ∷ y ∷ ys)
  | false ↦ IsPermutation-trans (x ∷ y ∷ ys) (y ∷ x ∷ ys) (y ∷ put_in key x ys) (IsPermutation-middle (x ∷ []) y ys) (IsPermutation-cons y (x ∷ ys) (put_in key x ys) (same-put key x ys))
]

pub same-rising : {A : Type 0} (key : A → ℕ) (xs : List A) → IsPermutation xs (rising key xs)
same-rising key [] = IsPermutation-refl []
same-rising key (x ∷ xs) = IsPermutation-trans (x ∷ xs) (x ∷ rising key xs) (put_in key x (rising key xs)) (IsPermutation-cons x xs (rising key xs) (same-rising key xs)) (same-put key x (rising key xs))

-- ---- their ids rise

-- no id of these is below
abbrev AllAbove : {A : Type 0} → (A → ℕ) → ℕ → List A → Type 0
AllAbove key n xs = AllByRecursion (λ x. n ≤ key x) xs

-- each one's id is at most those of all behind it
abbrev Rises : {A : Type 0} → (A → ℕ) → List A → Type 0
Rises key [] = Unit {0}
Rises key (x ∷ xs) = AllAbove key (key x) xs × Rises key xs

above-more : {A : Type 0} (key : A → ℕ) (m n : ℕ) (xs : List A) → m ≤ n → AllAbove key n xs → AllAbove key m xs
above-more key m n [] le all = tt
above-more key m n (x ∷ xs) le all = (let h = all.0 in omega arith, above-more key m n xs le all.1)

above-put : {A : Type 0} (key : A → ℕ) (n : ℕ) (x : A) (ys : List A) → n ≤ key x → AllAbove key n ys → AllAbove key n (put_in key x ys)
above-put key n x [] le all = (le, tt)
above-put key n x (y ∷ ys) le all = elim (nat_le (key x) (key y)) as (λ b. AllAbove key n (cond b (x ∷ y ∷ ys) (y ∷ put_in key x ys))) [
  | true ↦ (le, all)
  | false ↦ (all.0, above-put key n x ys le all.1)
]

rises-put : {A : Type 0} (key : A → ℕ) (x : A) (ys : List A) → Rises key ys → Rises key (put_in key x ys)
rises-put key x [] up = (tt, tt)
rises-put key x (y ∷ ys) up = elim (cases_Bool (nat_le (key x) (key y))) [
  | inl e ↦ let le : key x ≤ key y = leb-true (key x) (key y) e in rw e ((le, above-more key (key x) (key y) ys le up.0), up)
  | inr e ↦ let lt : key y < key x = leb-false (key x) (key y) e in rw e (above-put key (key y) x ys (omega arith) up.0, rises-put key x ys up.1)
]

rises : {A : Type 0} (key : A → ℕ) (xs : List A) → Rises key (rising key xs)
rises key [] = tt
rises key (x ∷ xs) = rises-put key x (rising key xs) (rises key xs)

above-at : {A : Type 0} (key : A → ℕ) (n : ℕ) (xs : List A) (j : ℕ) (d : A) → AllAbove key n xs → j < length xs → n ≤ key (get_or xs j d)
above-at key n [] j d all lt = absurd (omega arith)
above-at key n (x ∷ xs) zero d all lt = all.0
above-at key n (x ∷ xs) (suc j) d all lt = above-at key n xs j d all.1 (omega arith)

by-places : {A : Type 0} (key : A → ℕ) (xs : List A) → Rises key xs → IsNonDecreasingBy key xs
by-places key [] up i j d le lt = absurd (omega arith)
by-places key (x ∷ xs) up zero zero d le lt = omega arith
by-places key (x ∷ xs) up zero (suc j) d le lt = above-at key (key x) xs j d up.0 (omega arith)
by-places key (x ∷ xs) up (suc i) zero d le lt = absurd (omega arith)
by-places key (x ∷ xs) up (suc i) (suc j) d le lt = by-places key xs up.1 i j d (omega arith) (omega arith)

pub rising-rises : {A : Type 0} (key : A → ℕ) (xs : List A) → IsNonDecreasingBy key (rising key xs)
rising-rises key xs = by-places key (rising key xs) (rises key xs)
