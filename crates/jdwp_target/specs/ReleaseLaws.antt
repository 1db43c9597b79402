-- Which commands releases pick: there is one at each place where one is deferred, and none behind; and it is one that may be deferred.
use Rattle.std.proofs.Common.{◌≡◌, ℕ, zero, suc, ◌<◌, ◌≤◌, List, [], ◌∷◌, length, Option, Some, None, refl, ap, subst, arith}
use Rattle.std.specs.List.{AllByRecursion}
use Rattle.jdwp_wire.specs.Streams.{Message}
use Rattle.jdwp_debuggee.specs.Deferring.{beside, released_at}
use Rattle.jdwp_target.specs.Deeds.{MayBeDeferred}

-- there is a command at this place
pub record Found (n : ℕ) (b : List Message) : Type 0 where
  pub message : Message
  pub others : List Message
  pub is : released_at n b ≡ Some (message, others)

beside-found : (p : Message) (n : ℕ) (b : List Message) → Found n b → Found (suc n) (p ∷ b)
beside-found p n b f = record { message = f.message; others = p ∷ f.others; is = ap (beside p) f.is }

pub found : (n : ℕ) (b : List Message) → n < length b → Found n b
found zero [] less = absurd (omega arith)
found (suc n) [] less = absurd (omega arith)
found zero (p ∷ ps) less = record { message = p; others = ps; is = refl }
found (suc n) (p ∷ ps) less = beside-found p n ps (found n ps (omega arith))

pub none-found : (n : ℕ) (b : List Message) → length b ≤ n → released_at n b ≡ None
none-found zero [] least = refl
none-found (suc n) [] least = refl
none-found zero (p ∷ ps) least = absurd (omega arith)
none-found (suc n) (p ∷ ps) least = ap (beside p) (none-found n ps (omega arith))

all-beside : (p : Message) (o : Option (Message × List Message)) → MayBeDeferred p → ((x : Message) (rest : List Message) → o ≡ Some (x, rest) → MayBeDeferred x × AllByRecursion MayBeDeferred rest)
    → (x : Message) (rest : List Message) → beside p o ≡ Some (x, rest) → MayBeDeferred x × AllByRecursion MayBeDeferred rest
all-beside p None first h x rest e = absurd (cc)
all-beside p (Some (q, qs)) first h x rest e =
    let y : (q, p ∷ qs) ≡ (x, rest) = cc in
    let z = h q qs refl in
    subst (λ (o : Message × List Message). MayBeDeferred o.0 × AllByRecursion MayBeDeferred o.1) y (z.0, (first, z.1))

-- what is released is a command, and so are the others
pub deferred-ones : (n : ℕ) (b : List Message) (x : Message) (rest : List Message) → AllByRecursion MayBeDeferred b → released_at n b ≡ Some (x, rest) → MayBeDeferred x × AllByRecursion MayBeDeferred rest
deferred-ones zero [] x rest all e = absurd (cc)
deferred-ones (suc n) [] x rest all e = absurd (cc)
deferred-ones zero (p ∷ ps) x rest all e =
    let y : (p, ps) ≡ (x, rest) = cc in
    subst (λ (o : Message × List Message). MayBeDeferred o.0 × AllByRecursion MayBeDeferred o.1) y all
deferred-ones (suc n) (p ∷ ps) x rest all e = all-beside p (released_at n ps) all.0 (λ q qs. deferred-ones n ps q qs all.1) x rest e
