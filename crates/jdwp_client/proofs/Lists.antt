-- What holds of each of a list.
use Rattle.std.proofs.Common.{◌≡◌, ℕ, zero, suc, ◌<◌, ◌++◌, List, [], ◌∷◌, length, get_or, Bool, false, Some, None, refl, subst, take, drop, remove, slice_get, arith}
use Rattle.std.specs.Prelude.{IfErr, IfOk, OnOk, Result, Ok, Err}
use Rattle.std.specs.List.{AllByRecursion, position, position_or_len}
use Rattle.std.proofs.lemmas.Bool.Decides.{nat_tests}
use Rattle.std.proofs.lemmas.List.Quantifiers.{position-Some}
use Rattle.std.proofs.lemmas.Option.{slice_get_read}

pub all-append : {X : Type 0} (P : X → Type 0) (xs ys : List X) → AllByRecursion P xs → AllByRecursion P ys → AllByRecursion P (xs ++ ys)
all-append P [] ys h k = k
all-append P (x ∷ xs) ys h k = (h.0, all-append P xs ys h.1 k)

pub all-mono : {X : Type 0} (P Q : X → Type 0) (xs : List X) → ((x : X) → P x → Q x) → AllByRecursion P xs → AllByRecursion Q xs
all-mono P Q [] f h = tt
all-mono P Q (x ∷ xs) f h = (f x h.0, all-mono P Q xs f h.1)

all-take : {X : Type 0} (P : X → Type 0) (n : ℕ) (xs : List X) → AllByRecursion P xs → AllByRecursion P (take n xs)
all-take P zero xs h = tt
all-take P (suc n) [] h = tt
all-take P (suc n) (x ∷ xs) h = (h.0, all-take P n xs h.1)

all-drop : {X : Type 0} (P : X → Type 0) (n : ℕ) (xs : List X) → AllByRecursion P xs → AllByRecursion P (drop n xs)
all-drop P zero xs h = h
all-drop P (suc n) [] h = tt
all-drop P (suc n) (x ∷ xs) h = all-drop P n xs h.1

pub all-remove : {X : Type 0} (P : X → Type 0) (n : ℕ) (xs : List X) → AllByRecursion P xs → AllByRecursion P (remove xs n)
all-remove P n xs h = all-append P (take n xs) (drop (suc n) xs) (all-take P n xs h) (all-drop P (suc n) xs h)

pub all-at : {X : Type 0} (P : X → Type 0) (xs : List X) (n : ℕ) (x : X) → slice_get xs n ≡ Some x → AllByRecursion P xs → P x
all-at P [] n x e h = absurd (let same = e in cc)
all-at P (y ∷ xs) zero x e h = let same : y ≡ x = cc in subst P same h.0
all-at P (y ∷ xs) (suc n) x e h = all-at P xs n x e h.1

-- none passes, so there is no first one that does
none-before : {X : Type 0} (p : X → Bool) (xs : List X) → AllByRecursion (λ x. p x ≡ false) xs → position_or_len p xs ≡ length xs
none-before p [] h = refl
none-before p (x ∷ xs) h = let here = h.0 in let later = none-before p xs h.1 in rw (here, later) (omega arith)

pub none-passes : {X : Type 0} (p : X → Bool) (xs : List X) → AllByRecursion (λ x. p x ≡ false) xs → position p xs ≡ None
none-passes p xs h = let all = none-before p xs h in grind (arith, nat_tests)

-- the first that passes is there
pub first-is : {X : Type 0} (p : X → Bool) (xs : List X) (i : ℕ) (x : X) → position p xs ≡ Some i → x ≡ get_or xs i x → (slice_get xs i ≡ Some x)
first-is p xs i x first is = let within = (position-Some p xs i x first).0 in slice_get_read xs (length xs) i x refl within is

pub position-within : {X : Type 0} (p : X → Bool) (xs : List X) (i : ℕ) → position p xs ≡ Some i → i < length xs
position-within p [] i h = absurd (let e = h in cc)
position-within p (x ∷ xs) i h = (position-Some p (x ∷ xs) i x h).0

-- ---- results

pub on-ok : {A E P Q : Type 0} (r : Result A E) → (P → Q) → OnOk r P → OnOk r Q
on-ok (Ok a) f p = f p
on-ok (Err e) f p = p

pub if-ok : {A E : Type 0} {P Q : A → Type 0} (r : Result A E) → ((a : A) → P a → Q a) → IfOk r P → IfOk r Q
if-ok (Ok a) f p = f a p
if-ok (Err e) f p = p

pub if-err : {A E : Type 0} {P Q : E → Type 0} (r : Result A E) → ((e : E) → P e → Q e) → IfErr r P → IfErr r Q
if-err (Ok a) f p = p
if-err (Err e) f p = f e p
