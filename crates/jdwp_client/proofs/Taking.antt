-- What is handed out of what is kept.
use Rattle.std.proofs.Common.{◌≡◌, ℕ, List, get_or, Bool, Option, Some, None, remove}
use Rattle.std.specs.Prelude.{IfSome, IsSome, OnSome}
use Rattle.std.specs.List.{position}
use Rattle.jdwp_client.specs.Keeping.{Takes}
use Rattle.jdwp_client.proofs.Lists.{first-is}

-- the first that passes
pub takes-at : {X : Type 0} (p : X → Bool) (xs : List X) (i : ℕ) (r : Option X) (new : List X) → position p xs ≡ Some i → IsSome r → IfSome r (λ y. y ≡ get_or xs i y)
    → OnSome r (new ≡ remove xs i) → Takes p xs r new
takes-at p xs i None new first some value items = absurd (let e = some in cc)
takes-at p xs i (Some y) new first some value items = record { place = i; first = first; is = first-is p xs i y first value; others = items }
