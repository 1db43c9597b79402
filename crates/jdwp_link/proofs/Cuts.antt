-- lists of bytes that are cut at a number
use Rattle.std.proofs.Common.{◌≡◌, ◌≤◌, ℕ, zero, suc, ◌+◌, ◌-◌, min, length, take, drop, Bool, false, List, [], ◌∷◌, ◌++◌, refl, sym, ◌∙◌, ap, arith}
use Rattle.std.proofs.lemmas.List.{drop-drop, drop_at, drop-append-le, length-append, length-take-le, length-drop, take-append-le}
use Rattle.std.proofs.Math.Seq.{take-add, take-append-add, drop-append-add}
use Rattle.std.proofs.Math.Nat.{min-le_left, min-le_right}
use Rattle.jdwp_end.specs.Ends.{End}
use Rattle.jdwp_link.specs.Stands.{AreCut}

pub drop-none : (n : ℕ) → let none : List ℕ = [] in drop n none ≡ none
drop-none zero = refl
drop-none (suc n) = refl

pub at-most : (n a b : ℕ) → (min n (min a b) ≤ n) × (min n (min a b) ≤ a) × (min n (min a b) ≤ b)
at-most n a b =
    let c = min-le_right n (min a b) in
    let d = min-le_left a b in
    let e = min-le_right a b in
    let f = min-le_left n (min a b) in
    (f, omega (c, d, arith), omega (c, e, arith))

-- ---- two lists, one after the other

drop-two : (k : ℕ) (xs ys : List ℕ) → drop k xs ++ drop (k - length xs) ys ≡ drop k (xs ++ ys)
drop-two zero xs ys = let e : 0 - length xs ≡ 0 = omega arith in ap (λ n. xs ++ drop n ys) e
drop-two (suc k) [] ys = let e : suc k - 0 ≡ suc k = omega arith in ap (λ n. drop n ys) e
drop-two (suc k) (x ∷ xs) ys = let e : suc k - length (x ∷ xs) ≡ k - length xs = omega arith in ap (λ n. drop k xs ++ drop n ys) e ∙ drop-two k xs ys

-- what is left of both where so many were taken
pub left-after : (k : ℕ) (buffer outgoing : List ℕ) → k ≤ length (buffer ++ outgoing)
    → drop (length (take k (buffer ++ outgoing))) buffer ++ drop (length (drop (length buffer) (take k (buffer ++ outgoing)))) outgoing ≡ drop k (buffer ++ outgoing)
left-after k buffer outgoing le =
    let a : length (take k (buffer ++ outgoing)) ≡ k = length-take-le k (buffer ++ outgoing) le in
    let b : length (drop (length buffer) (take k (buffer ++ outgoing))) ≡ k - length buffer = length-drop (length buffer) (take k (buffer ++ outgoing)) ∙ ap (λ n. n - length buffer) a in
    ap (λ n. drop n buffer ++ drop (length (drop (length buffer) (take k (buffer ++ outgoing)))) outgoing) a ∙ (ap (λ n. drop k buffer ++ drop n outgoing) b ∙ drop-two k buffer outgoing)

-- ---- cut lists

-- so many of the bytes under way come
pub cut-more : (at d : ℕ) (bytes way way_after : List ℕ) (to after : End) (closed : Bool) → d ≤ length way → after.incoming ≡ to.incoming ++ take d way → way_after ≡ drop d way
    → AreCut at bytes way to closed → AreCut (at + d) bytes way_after after closed
cut-more at d bytes way way_after to after closed le fed left c = record {
  number = let e = length-drop at bytes in let f : length way ≡ length (drop at bytes) = ap length c.left in let n = c.number in omega arith;
  there = λ o. fed ∙ (ap (λ b. b ++ take d way) (c.there o) ∙ (ap (λ b. take at bytes ++ take d b) c.left ∙ sym (take-add at d bytes)));
  left = left ∙ (ap (drop d) c.left ∙ drop-drop d at bytes);
}

-- more is put behind them
pub cut-longer : (at : ℕ) (bytes more way way_after : List ℕ) (to after : End) (closed : Bool) → after.incoming ≡ to.incoming → way_after ≡ way ++ more
    → AreCut at bytes way to closed → AreCut at (bytes ++ more) way_after after closed
cut-longer at bytes more way way_after to after closed same left c = record {
  number = let e = length-append bytes more in let n = c.number in omega arith;
  there = λ o. same ∙ (c.there o ∙ sym (take-append-le at bytes more c.number));
  left = left ∙ (ap (λ b. b ++ more) c.left ∙ sym (drop-append-le at bytes more c.number));
}

-- the first of them, which came whole, are taken off
pub cut-shorter : (at size : ℕ) (first rest way way_after : List ℕ) (to after : End) (closed now : Bool) → length first ≡ size → size ≤ at → closed ≡ false → after.incoming ≡ drop size to.incoming → way_after ≡ way
    → AreCut at (first ++ rest) way to closed → AreCut (at - size) rest way_after after now
cut-shorter at size first rest way way_after to after closed now e le o off same c =
    let n = c.number in
    let both = length-append first rest in
    let split : at ≡ length first + (at - size) = omega arith in
    let front : take at (first ++ rest) ≡ first ++ take (at - size) rest = ap (λ k. take k (first ++ rest)) split ∙ take-append-add first rest (at - size) in
    record {
      number = omega arith;
      there = λ _. off ∙ (ap (drop size) (c.there o ∙ front) ∙ drop_at first (take (at - size) rest) size e);
      left = same ∙ (c.left ∙ (ap (λ k. drop k (first ++ rest)) split ∙ drop-append-add first rest (at - size)));
    }

-- the same bytes at another end, or at one that closed
pub cut-same : (at : ℕ) (bytes way way_after : List ℕ) (to after : End) (closed now : Bool) → way_after ≡ way → (now ≡ false → (closed ≡ false) × (after.incoming ≡ to.incoming))
    → AreCut at bytes way to closed → AreCut at bytes way_after after now
cut-same at bytes way way_after to after closed now same unshut c = record {
  number = c.number;
  there = λ o. (unshut o).1 ∙ c.there (unshut o).0;
  left = same ∙ c.left;
}
