-- Lists of things that have ids, by rising id.
use Rattle.std.specs.Prelude.{ℕ, List, [], ◌∷◌, nat_le, if◌then◌else◌}

-- one more, before the first whose id is not less
abbrev pub put_in : {A : Type 0} → (A → ℕ) → A → List A → List A
put_in key x [] = x ∷ []
put_in key x (y ∷ ys) = if nat_le (key x) (key y) then x ∷ y ∷ ys else y ∷ put_in key x ys

-- the same ones by rising id
abbrev pub rising : {A : Type 0} → (A → ℕ) → List A → List A
rising key [] = []
rising key (x ∷ xs) = put_in key x (rising key xs)
