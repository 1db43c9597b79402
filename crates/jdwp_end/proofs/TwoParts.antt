-- The first bytes of two parts.
use Rattle.std.proofs.Common.{◌≡◌, ◌∙◌, ℕ, ◌+◌, ◌-◌, ◌++◌, min, List, length, take, sym, ap, arith, inl, inr, append-nil, append_assoc}
use Rattle.std.proofs.lemmas.Bool.{cases_lt}
use Rattle.std.proofs.lemmas.List.{take-append-le}
use Rattle.std.proofs.Math.Seq.{take-append-add, take-length}

-- those of the one, and then those of the other
pub taken_parts : (used count : ℕ) (xs ys : List ℕ) → count ≡ min used (length xs) → take count xs ++ take (used - count) ys ≡ take used (xs ++ ys)
taken_parts used count xs ys is = elim (cases_lt used (length xs)) [
  | inl less ↦
      let all : count ≡ used = omega (arith, is) in
      let none : used - count ≡ 0 = omega (arith, all) in
      rw (none, all) (append-nil (take used xs) ∙ sym (take-append-le used xs ys (omega arith)))
  | inr more ↦
      let first : count ≡ length xs = omega (arith, is) in
      let same : used ≡ length xs + (used - length xs) = omega arith in
      rw (first, take-length xs) (sym (ap (λ (n : ℕ). take n (xs ++ ys)) same ∙ take-append-add xs ys (used - length xs)))
]

-- the same behind what happened before
pub noted_parts : (old : List ℕ) (used count : ℕ) (xs ys : List ℕ) → count ≡ min used (length xs) → (old ++ take count xs) ++ take (used - count) ys ≡ old ++ take used (xs ++ ys)
noted_parts old used count xs ys is = append_assoc old (take count xs) (take (used - count) ys) ∙ ap (λ (zs : List ℕ). old ++ zs) (taken_parts used count xs ys is)
