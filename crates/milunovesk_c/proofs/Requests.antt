-- The event request at a place, by the iterator of all.
use Rattle.std.proofs.Common.{◌≡◌, ℕ, List, Option, refl}
use Rattle.std.specs.Prelude.{option_map, slice_get}
use Rattle.std.specs.Iterator.{SkipsThenYields}
use Rattle.std.specs.Map.Iter.{TakesFirst}
use Rattle.std.proofs.lemmas.Iterator.Consumers.{YieldsList-from_rest, nth_from_yields_List}

-- What is given behind so many items is the one at that place.
pub nth_is : {A X : Type 0} (shows : A → X) (all : List X) (n : ℕ) (r : Option A) (u : List X) → SkipsThenYields (TakesFirst shows) all n r u → option_map shows r ≡ slice_get all n
nth_is shows all n r u h = nth_from_yields_List r u n h (YieldsList-from_rest all refl)
