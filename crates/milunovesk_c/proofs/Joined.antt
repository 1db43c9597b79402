-- Bytes handed out one part behind the other.
use Rattle.std.proofs.Common.{◌≡◌, ◌∙◌, ℕ, ◌+◌, ◌++◌, List, ◌∷◌, length, drop, sym, ap, arith}
use Rattle.std.proofs.lemmas.List.{append_assoc, drop-drop, length-append}

pub joined-length : (a b : List ℕ) (p : ℕ) → length (a ++ p ∷ b) ≡ length a + 1 + length b
joined-length a b p = grind (arith, length-append)

-- what two parts with a byte between leave of what was there
left : (a b old : List ℕ) (p : ℕ) → drop (length b) (drop 1 (drop (length a) old)) ≡ drop (length (a ++ p ∷ b)) old
left a b old p =
    let behind : length a + (1 + length b) ≡ length (a ++ p ∷ b) = grind (arith, length-append) in
    drop-drop (length b) 1 (drop (length a) old) ∙ (drop-drop (1 + length b) (length a) old ∙ ap (λ k. drop k old) behind)

pub joined : (a b old : List ℕ) (p : ℕ) → a ++ (p ∷ (b ++ drop (length b) (drop 1 (drop (length a) old)))) ≡ (a ++ p ∷ b) ++ drop (length (a ++ p ∷ b)) old
joined a b old p = ap (λ (rest : List ℕ). a ++ (p ∷ (b ++ rest))) (left a b old p) ∙ sym (append_assoc a (p ∷ b) (drop (length (a ++ p ∷ b)) old))
