-- Bytes that are taken from the front of others.
use Rattle.std.proofs.Common.{◌≡◌, ◌∙◌, ◌≤◌, ℕ, List, ◌++◌, length, take, drop, ap, subst}
use Rattle.std.proofs.Math.Seq.{take-append_seam}
use Rattle.std.proofs.lemmas.List.{length-take-le, take-append-drop}

-- where so many are taken to the front of a buffer, these and the rest are what was there
pub taken-first : (n : ℕ) (bytes behind : List ℕ) → n ≤ length bytes → take n (take n bytes ++ behind) ++ drop (length (take n bytes)) bytes ≡ bytes
taken-first n bytes behind within =
    let as_many : length (take n bytes) ≡ n = length-take-le n bytes within in
    let front : take n (take n bytes ++ behind) ≡ take n bytes =
    subst (λ (k : ℕ). take k (take n bytes ++ behind) ≡ take n bytes) as_many (take-append_seam (take n bytes) behind) in
    ap (λ (first : List ℕ). first ++ drop (length (take n bytes)) bytes) front
    ∙ (ap (λ (k : ℕ). take n bytes ++ drop k bytes) as_many ∙ take-append-drop n bytes)
