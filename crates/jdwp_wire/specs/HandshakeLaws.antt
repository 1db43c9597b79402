-- The function and the relation agree on the handshake at the front.
use Rattle.std.specs.Prelude.{◌≡◌, ◌≢◌, ℕ, zero, suc, ◌+◌, ◌<◌, List, [], ◌∷◌, ◌++◌, length, take, slice_index, true, false, refl}
use Rattle.std.proofs.Common.{ap, sym, ◌∙◌, arith, eqb, inl, inr, subst}
use Rattle.std.proofs.lemmas.Bool.{eqb-true, eq-eqb, cases_Bool}
use Rattle.jdwp_wire.specs.declared.frame.FrameFault.TheVariants.{ShortLength, TooLong, BadFlags, BadHandshake}
use Rattle.jdwp_wire.specs.declared.frame.NextHello.{NextHello}
use Rattle.jdwp_wire.specs.declared.frame.NextHello.TheVariants.{Whole, More, Fault}
use Rattle.jdwp_wire.specs.Handshake.{handshake_bytes, HandshakeFrontOf, handshake_from, handshake_front}

-- the relation from a place on, for any expected bytes
abbrev FrontFrom : ℕ → List ℕ → List ℕ → NextHello → Type 0
FrontFrom i xs bytes Whole = (rest : List ℕ) × (bytes ≡ xs ++ rest)
FrontFrom i xs bytes More = (rest : List ℕ) × (0 < length rest) × (xs ≡ bytes ++ rest)
FrontFrom i xs bytes (Fault (BadHandshake p)) =
    (k : ℕ) × (p ≡ i + k) × (k < length bytes) × (k < length xs) × (take k bytes ≡ take k xs) × (slice_index bytes k ≢ slice_index xs k)
FrontFrom i xs bytes (Fault f) = ⊥

abbrev fault_at : ℕ → NextHello
fault_at p = Fault (BadHandshake p)

-- one equal byte more
one_more : (i x : ℕ) (xs bytes : List ℕ) (f : NextHello) → FrontFrom (suc i) xs bytes f → FrontFrom i (x ∷ xs) (x ∷ bytes) f
one_more i x xs bytes Whole (rest, e) = (rest, ap (λ (ys : List ℕ). x ∷ ys) e)
one_more i x xs bytes More (rest, some, e) = (rest, some, ap (λ (ys : List ℕ). x ∷ ys) e)
one_more i x xs bytes (Fault (BadHandshake p)) (k, at, low, high, same, other) =
    (suc k, omega arith, omega arith, omega arith, ap (λ (ys : List ℕ). x ∷ ys) same, other)
one_more i x xs bytes (Fault ShortLength) h = absurd h
one_more i x xs bytes (Fault TooLong) h = absurd h
one_more i x xs bytes (Fault BadFlags) h = absurd h

other_byte : (a b : ℕ) → eqb a b ≡ false → a ≢ b
other_byte a b unequal e = let equal = eq-eqb a b e in absurd (let both : true ≡ false = sym equal ∙ unequal in cc)

from_is : (i : ℕ) (xs bytes : List ℕ) → FrontFrom i xs bytes (handshake_from i xs bytes)
from_is i [] bytes = (bytes, refl)
from_is i (x ∷ xs) [] = (x ∷ xs, omega arith, refl)
from_is i (x ∷ xs) (b ∷ bytes) = elim (cases_Bool (eqb b x)) [
  | inl e ↦
      let same : b ≡ x = eqb-true b x e in
      rw e (subst (λ (y : ℕ). FrontFrom i (x ∷ xs) (y ∷ bytes) (handshake_from (suc i) xs bytes)) (sym same) (one_more i x xs bytes (handshake_from (suc i) xs bytes) (from_is (suc i) xs bytes)))
  | inr e ↦ rw e (0, omega arith, omega arith, omega arith, refl, other_byte b x e)
]

eqb_same : (x : ℕ) → eqb x x ≡ true
eqb_same x = eq-eqb x x refl

from_whole : (i : ℕ) (xs rest : List ℕ) → handshake_from i xs (xs ++ rest) ≡ Whole
from_whole i [] rest = refl
from_whole i (x ∷ xs) rest = rw (eqb_same x) (from_whole (suc i) xs rest)

from_more : (i : ℕ) (bytes rest : List ℕ) → 0 < length rest → handshake_from i (bytes ++ rest) bytes ≡ More
from_more i [] [] some = absurd (omega arith)
from_more i [] (x ∷ xs) some = refl
from_more i (b ∷ bytes) rest some = rw (eqb_same b) (from_more (suc i) bytes rest some)

same_head : (a b : ℕ) (xs ys : List ℕ) → a ∷ xs ≡ b ∷ ys → (a ≡ b) × (xs ≡ ys)
same_head a b xs ys e = (cc, cc)

from_fault : (i k : ℕ) (xs bytes : List ℕ) → k < length bytes → k < length xs → take k bytes ≡ take k xs → slice_index bytes k ≢ slice_index xs k
    → handshake_from i xs bytes ≡ fault_at (i + k)
from_fault i k [] bytes low high same other = absurd (omega arith)
from_fault i k (x ∷ xs) [] low high same other = absurd (omega arith)
from_fault i zero (x ∷ xs) (b ∷ bytes) low high same other = elim (cases_Bool (eqb b x)) [
  | inl e ↦ absurd (other (eqb-true b x e))
  | inr e ↦ rw e (ap fault_at (omega arith))
]
from_fault i (suc k) (x ∷ xs) (b ∷ bytes) low high same other =
    let both = same_head b x (take k bytes) (take k xs) same in
    let e : eqb b x ≡ true = eq-eqb b x both.0 in
    rw e (from_fault (suc i) k xs bytes (omega arith) (omega arith) both.1 other ∙ ap fault_at (omega arith))

-- the relation from place 0 is the definition's
as_defined : (bytes : List ℕ) (f : NextHello) → FrontFrom 0 handshake_bytes bytes f → HandshakeFrontOf bytes f
as_defined bytes Whole h = h
as_defined bytes More h = h
as_defined bytes (Fault (BadHandshake p)) (k, at, low, high, same, other) =
    let P : ℕ → Type 0 = λ n. HandshakeFrontOf bytes (fault_at n) in
    subst P (let e : k ≡ p = omega arith in e) (low, high, same, other)
as_defined bytes (Fault ShortLength) h = absurd h
as_defined bytes (Fault TooLong) h = absurd h
as_defined bytes (Fault BadFlags) h = absurd h

-- the function gives what stands at the front
pub handshake_front_is : (bytes : List ℕ) → HandshakeFrontOf bytes (handshake_front bytes)
handshake_front_is bytes = as_defined bytes (handshake_front bytes) (from_is 0 handshake_bytes bytes)

-- and nothing else stands there
pub handshake_front_only : (bytes : List ℕ) (f : NextHello) → HandshakeFrontOf bytes f → handshake_front bytes ≡ f
handshake_front_only bytes Whole (rest, e) = rw e (from_whole 0 handshake_bytes rest)
handshake_front_only bytes More (rest, some, e) =
    ap (λ (xs : List ℕ). handshake_from 0 xs bytes) e ∙ from_more 0 bytes rest some
handshake_front_only bytes (Fault (BadHandshake p)) (low, high, same, other) = from_fault 0 p handshake_bytes bytes low high same other ∙ ap fault_at (omega arith)
handshake_front_only bytes (Fault ShortLength) h = absurd h
handshake_front_only bytes (Fault TooLong) h = absurd h
handshake_front_only bytes (Fault BadFlags) h = absurd h
