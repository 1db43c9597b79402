-- What was kept first, as a loop goes on.
use Rattle.std.proofs.Common.{◌≡◌, ◌⊎◌, ◌<◌, ℕ, List, [], ◌∷◌, length, get_or, Ok, sym, ap, subst, ◌∙◌, arith, inl, inr}
use Rattle.jdwp_wire.specs.Bytes.{IsBytes}
use Rattle.jdwp_wire.specs.Reading.{Reader, Encoding, BeginsWith}
use Rattle.jdwp_wire.specs.Each.{FirstIsKept}
use Rattle.jdwp_wire.specs.Codes.{Found}

-- what is read stands in front
pub begins : {X : Type 0} {decode : Reader X} {encodes : Encoding X} → Found decode encodes → (bytes rest : List ℕ) (x : X) (after : List ℕ) → IsBytes bytes → decode rest ≡ Ok (x, after) → rest ≡ bytes → BeginsWith encodes bytes
begins {decode = decode} law bytes rest x after fits e is =
    let t = law bytes x after fits (ap decode (sym is) ∙ e) in
    (x, t.0, after, t.1, t.2)

-- of so many values the first stands in front, be it this one or one before it
pub first_begins : {X : Type 0} {decode : Reader X} {encodes : Encoding X} → Found decode encodes → (bytes rest : List ℕ) (x : X) (after : List ℕ) → IsBytes bytes → decode rest ≡ Ok (x, after)
    → (rest ≡ bytes) ⊎ BeginsWith encodes bytes → BeginsWith encodes bytes
first_begins law bytes rest x after fits e first = elim first [
  | inl is ↦ begins law bytes rest x after fits e is
  | inr before ↦ before
]

module _ {A X : Type 0} (kept : A → List ℕ → Type 0) (encodes : A → Encoding X) where
  head_kept : (ks : List A) (k : A) (bytes : List ℕ) → 0 < length ks → k ≡ get_or ks 0 k → kept k bytes ⊎ BeginsWith (encodes k) bytes → FirstIsKept kept encodes ks bytes
  head_kept [] k bytes lt is h = absurd (omega arith)
  head_kept (y ∷ ys) k bytes lt is h = subst (λ (x : A). kept x bytes ⊎ BeginsWith (encodes x) bytes) is h

  -- it is this item or one before it
  pub first_kept : (ks : List A) (i : ℕ) (k : A) (bytes rest : List ℕ) → i < length ks → k ≡ get_or ks i k → (rest ≡ bytes → kept k bytes ⊎ BeginsWith (encodes k) bytes)
      → ((i ≡ 0) × (rest ≡ bytes)) ⊎ FirstIsKept kept encodes ks bytes → FirstIsKept kept encodes ks bytes
  first_kept ks i k bytes rest lt is now first = elim first [
    | inl (zero, same) ↦ head_kept ks k bytes (omega (arith, lt)) (is ∙ ap (λ (n : ℕ). get_or ks n k) zero) (now same)
    | inr before ↦ before
  ]
