-- Booleans that are read one after the other.
use Rattle.std.proofs.Common.{◌≡◌, ◌≢◌, ◌∙◌, ℕ, ◌+◌, ◌<◌, ◌≤◌, Bool, false, List, [], ◌∷◌, refl, zero, suc, length, map, replicate, get_or, set, inl, inr, sym, ap, arith}
use Rattle.std.proofs.lemmas.Bool.{cases_eq}
use Rattle.std.proofs.lemmas.List.{ext_get_or, get_or-map, get_or-set_same, get_or-set_other, get_or-replicate, length-map, length-replicate, length-set}
use Rattle.jdwp_layout.specs.declared.datum.Scalar.{Scalar}
use Rattle.jdwp_layout.specs.declared.item.Field.{Field}
use Rattle.jdwp_layout.specs.declared.item.Field.TheVariants as held
use Rattle.jdwp_layout.specs.Grammar.{kind_of}
use Rattle.jdwp_layout.specs.Meanings.{Boolean, scalar_meaning, scalar_meanings}
use Rattle.jdwp_answer.specs.Shaped.{HasFields, booleans}

-- those in front of this place are those of the values
pub record AreRead (xs : List Scalar) (truths : List Bool) (place : ℕ) : Type 0 where
  pub same : length truths ≡ length xs
  pub read : (i : ℕ) → i < place → (d : Scalar) → Boolean (get_or truths i false) ≡ scalar_meaning (get_or xs i d)

-- one more
pub read-one : (xs : List Scalar) (truths : List Bool) (place : ℕ) (truth : Bool) → AreRead xs truths place → place < length xs → ((d : Scalar) → Boolean truth ≡ scalar_meaning (get_or xs place d))
    → AreRead xs (set truths place truth) (place + 1)
read-one xs truths place truth r inside is = record {
  same = length-set truths place truth ∙ r.same;
  read = λ i below d. elim (cases_eq i place) [
    | inl here ↦ rw here (ap Boolean (get_or-set_same truths place truth false (omega (arith, r.same, inside))) ∙ is d)
    | inr other ↦ ap Boolean (get_or-set_other truths place i truth false other) ∙ r.read i (omega (arith, below, other)) d
  ];
}

pub read-all : (xs : List Scalar) (truths : List Bool) (d : Scalar) → AreRead xs truths (length xs) → booleans truths ≡ scalar_meanings xs
read-all xs truths d r =
    let size : length (booleans truths) ≡ length truths = length-map truths (λ b. Boolean b) in
    ext_get_or (Boolean false) (booleans truths) (scalar_meanings xs) (size ∙ r.same ∙ sym (length-map xs scalar_meaning)) (λ i h.
    let inside : i < length truths = omega (arith, h, size) in
    get_or-map (λ b. Boolean b) truths i false (Boolean false) inside
    ∙ r.read i (omega (arith, inside, r.same)) d
    ∙ sym (get_or-map scalar_meaning xs i d (Boolean false) (omega (arith, inside, r.same))))

-- values of which each is a boolean
pub each-boolean : (xs : List Scalar) (n place : ℕ) (d : Scalar) → place < length xs → HasFields (replicate n held.Boolean) (scalar_meanings xs) → kind_of (scalar_meaning (get_or xs place d)) ≡ held.Boolean
each-boolean xs n place d inside has =
    let kinds = map kind_of (scalar_meanings xs) in
    let many : length (scalar_meanings xs) ≡ length xs = length-map xs scalar_meaning in
    let size : length kinds ≡ length xs = length-map (scalar_meanings xs) kind_of ∙ many in
    let long : length kinds ≡ n = ap length has ∙ length-replicate n held.Boolean in
    sym (ap kind_of (get_or-map scalar_meaning xs place d (Boolean false) inside))
    ∙ sym (get_or-map kind_of (scalar_meanings xs) place (Boolean false) held.Boolean (omega (arith, inside, many)))
    ∙ ap (λ (l : List Field). get_or l place held.Boolean) has
    ∙ get_or-replicate n place held.Boolean held.Boolean (omega (arith, inside, size, long))

-- ---- so many, one by one

abbrev pub listed : List Bool → ℕ → ℕ → List Bool
listed truths i zero = []
listed truths i (suc n) = get_or truths i false ∷ listed truths (suc i) n

listed-behind : (truth : Bool) (truths : List Bool) (i n : ℕ) → listed (truth ∷ truths) (suc i) n ≡ listed truths i n
listed-behind truth truths i zero = refl
listed-behind truth truths i (suc n) = ap (λ (l : List Bool). get_or truths i false ∷ l) (listed-behind truth truths (suc i) n)

listed-length : (truths : List Bool) → listed truths 0 (length truths) ≡ truths
listed-length [] = refl
listed-length (truth ∷ truths) = ap (λ (l : List Bool). truth ∷ l) (listed-behind truth truths 0 (length truths) ∙ listed-length truths)

pub listed-all : (truths : List Bool) (n : ℕ) → length truths ≡ n → listed truths 0 n ≡ truths
listed-all truths n h = ap (λ (k : ℕ). listed truths 0 k) (sym h) ∙ listed-length truths
