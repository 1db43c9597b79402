-- Fields, looked at one by one.
use Rattle.std.proofs.Common.{◌≡◌, ℕ, ◌+◌, ◌<◌, ◌≤◌, List, [], ◌∷◌, length, get_or, drop, add-one, drop-cons, refl, sym, subst}
use Rattle.std.proofs.lemmas.List.{drop_all}
use Rattle.jdwp_layout.specs.declared.datum.Scalar.{Scalar}
use Rattle.jdwp_layout.specs.Meanings.{ScalarMeaning, scalar_meaning, scalar_meanings}

cons_same : (a b : ScalarMeaning) (xs ys : List ScalarMeaning) → a ≡ b → xs ≡ ys → a ∷ xs ≡ b ∷ ys
cons_same a b xs ys p q = cc

-- the field at this place means this, and those behind it mean the others
pub first_means : (xs : List Scalar) (i : ℕ) (x : Scalar) (m : ScalarMeaning) (ms : List ScalarMeaning)
    → i < length xs → x ≡ get_or xs i x → m ≡ scalar_meaning x → ms ≡ scalar_meanings (drop (i + 1) xs) → m ∷ ms ≡ scalar_meanings (drop i xs)
first_means xs i x m ms lt is means others =
    let e : drop i xs ≡ get_or xs i x ∷ drop (i + 1) xs = rw (add-one, drop-cons xs i x) in
    let same : m ≡ scalar_meaning (get_or xs i x) = subst (λ (y : Scalar). m ≡ scalar_meaning y) is means in
    subst (λ (l : List Scalar). m ∷ ms ≡ scalar_meanings l) (sym e) (cons_same m (scalar_meaning (get_or xs i x)) ms (scalar_meanings (drop (i + 1) xs)) same others)

-- and behind the last, nothing is left
pub nothing_left : (xs : List Scalar) (n : ℕ) → length xs ≤ n → [] ≡ scalar_meanings (drop n xs)
nothing_left xs n le = subst (λ (l : List Scalar). [] ≡ scalar_meanings l) (sym (drop_all n xs le)) refl
