-- Adding sizes up, as a loop does.
use Rattle.std.proofs.Common.{◌≡◌, ℕ, ◌+◌, ◌<◌, ◌≤◌, ◌^◌, List, ◌∷◌, length, get_or, drop, map, ltb, Some, None, refl, sym, ap, ◌∙◌, arith, inl, inr}
use Rattle.std.specs.List.{flat_map}
use Rattle.std.proofs.lemmas.Bool.{lt-ltb, ltb-true, cases_Bool}
use Rattle.std.proofs.lemmas.List.{drop_more, drop_all, length-append}
use Rattle.jdwp_wire.specs.Reading.{in_usize}
pub use Rattle.jdwp_value.proofs.Elements.{past_usize}

pub within_usize : (n : ℕ) → n < 2 ^ 64 → in_usize n ≡ Some n
within_usize n lt = rw (lt-ltb n (2 ^ 64) lt) refl

pub none_is_past : (n : ℕ) → in_usize n ≡ None → n < 2 ^ 64 → ⊥
none_is_past n none lt = let both : Some n ≡ None = sym (within_usize n lt) ∙ none in absurd cc

pub some_is : (n m : ℕ) → in_usize n ≡ Some m → (m ≡ n) × (n < 2 ^ 64)
some_is n m some = elim (cases_Bool (ltb n (2 ^ 64))) [
  | inl less ↦ (let both : Some n ≡ Some m = sym (within_usize n (ltb-true n (2 ^ 64) less)) ∙ some in cc, ltb-true n (2 ^ 64) less)
  | inr not ↦ (let none : in_usize n ≡ None = rw not refl in let both : None ≡ Some m = sym none ∙ some in absurd cc)
]

module _ {T X : Type 0} (meaning : T → X) (canonical : X → List ℕ) (xs : List T) where
  -- So much is counted, and what is left makes up the whole.
  abbrev pub Sized : ℕ → ℕ → Type 0
  Sized i total = total + length (flat_map canonical (map meaning (drop i xs))) ≡ length (flat_map canonical (map meaning xs))

  pub next_sized : (i : ℕ) (x : T) (total : ℕ) → i < length xs → x ≡ get_or xs i x → Sized i total → Sized (i + 1) (total + length (canonical (meaning x)))
  next_sized i x total lt is so_far =
      let left : drop i xs ≡ x ∷ drop (i + 1) xs = drop_more xs i x lt ∙ ap (λ (y : T). y ∷ drop (i + 1) xs) (sym is) in
      let parts = ap (λ (ys : List T). length (flat_map canonical (map meaning ys))) left ∙ length-append (canonical (meaning x)) (flat_map canonical (map meaning (drop (i + 1) xs))) in
      omega (arith, so_far, parts)

  -- the next passes the greatest usize
  pub sum_past : (i : ℕ) (x : T) (total : ℕ) → i < length xs → x ≡ get_or xs i x → Sized i total → (total + length (canonical (meaning x)) < 2 ^ 64 → ⊥) → in_usize (length (flat_map canonical (map meaning xs))) ≡ None
  sum_past i x total lt is so_far past =
      let next = next_sized i x total lt is so_far in
      past_usize (length (flat_map canonical (map meaning xs))) (λ whole. past (omega (arith, next, whole)))

  -- all is counted
  pub all_sized : (i : ℕ) (total : ℕ) → length xs ≤ i → total < 2 ^ 64 → Sized i total → Some total ≡ in_usize (length (flat_map canonical (map meaning xs)))
  all_sized i total past small so_far =
      let none = ap (λ (ys : List T). length (flat_map canonical (map meaning ys))) (drop_all i xs past) in
      let is : length (flat_map canonical (map meaning xs)) ≡ total = omega (arith, so_far, none) in
      rw is (sym (within_usize total small))
