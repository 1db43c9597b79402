-- Texts with names in them, and the values that stand there.
use Rattle.std.specs.Prelude.{◌≡◌, ℕ, ◌+◌, ◌-◌, ◌==◌, List, [], ◌∷◌, ◌++◌, length, map, suc, zero, Option, Some, None, Result, Ok, Err, if◌then◌else◌, take}
use Rattle.std.specs.Str.{bytes_eq}
use Rattle.std.specs.Global.{Vec}
use Rattle.jdwp_plan.specs.declared.filling.FillFault.{FillFault}
use Rattle.jdwp_plan.specs.declared.filling.FillFault.TheVariants as fault
use Rattle.jdwp_plan.specs.declared.quoting.Place.{Place}
use Rattle.jdwp_plan.specs.declared.quoting.Place.TheVariants.{Outside}
use Rattle.jdwp_plan.specs.Names.{name_length}
use Rattle.jdwp_plan.specs.Quotes.{place_behind, stands}

abbrev pub bindings : List (Vec ℕ × Vec ℕ) → List (List ℕ × List ℕ)
bindings bound = map (λ b. (b.0.items, b.1.items)) bound

-- what is bound to a name: the last comes first
abbrev pub value_of : List ℕ → List (List ℕ × List ℕ) → Option (List ℕ)
value_of name [] = None
value_of name (b ∷ bs) = if bytes_eq b.0 name then Some b.1 else value_of name bs

-- the name in front
abbrev pub name_in : List ℕ → List ℕ
name_in text = take (name_length text) text

-- with this in front
abbrev pub joined : {E : Type 0} → List ℕ → Result (List ℕ) E → Result (List ℕ) E
joined text (Ok rest) = Ok (text ++ rest)
joined text (Err e) = Err e

abbrev pub with_value : Option (List ℕ) → ℕ → Result (List ℕ) ℕ → Result (List ℕ) ℕ
with_value None left rest = Err left
with_value (Some value) left rest = joined value rest

-- The text with the values in the place of names: `$NAME` in no string. Or how many bytes stand from the first name on that has
-- none. So many bytes in front belong to a name whose value stands already.
abbrev pub filled_behind : List (List ℕ × List ℕ) → ℕ → Place → List ℕ → Result (List ℕ) ℕ
filled_behind values skipped place [] = Ok []
filled_behind values zero place (b ∷ text) =
    if stands place 36 b
    then with_value (value_of (name_in text) values) (length text + 1) (filled_behind values (name_length text) Outside text)
    else joined (b ∷ []) (filled_behind values 0 (place_behind place b) text)
filled_behind values (suc skipped) place (b ∷ text) = filled_behind values skipped place text

abbrev pub filled : List (List ℕ × List ℕ) → List ℕ → Result (List ℕ) ℕ
filled values text = filled_behind values 0 Outside text

-- why a text is not filled: the first `$` that has no value stands here, or memory was wanting
abbrev pub IsUnfilled : List (List ℕ × List ℕ) → List ℕ → FillFault → Type 0
IsUnfilled values text (fault.NoValue place) = (left : ℕ) × (filled values text ≡ Err left) × (place ≡ length text - left)
IsUnfilled values text fault.NoMemory = Unit {0}
