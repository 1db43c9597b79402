-- Look-ups in lists of things that have ids.
use Rattle.std.specs.Prelude.{ℕ, suc, ◌==◌, Bool, true, false, List, [], ◌∷◌, map, nat_le, if◌then◌else◌, Option, Some, None}
use Rattle.jdwp_value.specs.Rising.{put_in}

-- the first one with this id
abbrev pub with_id : {A : Type 0} → (A → ℕ) → ℕ → List A → Option A
with_id key id [] = None
with_id key id (x ∷ xs) = if key x == id then Some x else with_id key id xs

-- the list where what has this id was changed
abbrev pub changed : {A : Type 0} → (A → ℕ) → ℕ → (A → A) → List A → List A
changed key id change xs = map (λ x. if key x == id then change x else x) xs

-- the list where the first that has this id was changed
abbrev pub first_changed : {A : Type 0} → (A → ℕ) → ℕ → (A → A) → List A → List A
first_changed key id change [] = []
first_changed key id change (x ∷ xs) = if key x == id then change x ∷ xs else x ∷ first_changed key id change xs

-- the first one is put among the others
abbrev pub first_put : {A : Type 0} → (A → ℕ) → List A → List A
first_put key [] = []
first_put key (x ∷ xs) = put_in key x xs

-- how many stand before the first whose id is not less
abbrev pub place_for : {A : Type 0} → (A → ℕ) → ℕ → List A → ℕ
place_for key id [] = 0
place_for key id (y ∷ ys) = if nat_le id (key y) then 0 else suc (place_for key id ys)

abbrev pub is_some : {A : Type 0} → Option A → Bool
is_some None = false
is_some (Some x) = true
