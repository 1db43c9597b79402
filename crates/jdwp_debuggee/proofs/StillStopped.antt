-- Threads that an event stopped.
use Rattle.std.proofs.Common.{◌≡◌, ℕ, Bool, true, false, cond, List, [], ◌∷◌, refl, ap}
use Rattle.std.specs.List.{filter}
use Rattle.jdwp_value.specs.declared.id.ObjectId.{ObjectId}
use Rattle.jdwp_machine.specs.Meanings.{numbers}

-- the numbers of those that pass a test of their numbers
pub numbers-kept : (p : ℕ → Bool) (ids : List ObjectId) → numbers (filter (λ (id : ObjectId). p id.0) ids) ≡ filter p (numbers ids)
numbers-kept p [] = refl
numbers-kept p (id ∷ ids) =
    elim (p id.0) as (λ b. numbers (cond b (id ∷ filter (λ (id : ObjectId). p id.0) ids) (filter (λ (id : ObjectId). p id.0) ids)) ≡ cond b (id.0 ∷ filter p (numbers ids)) (filter p (numbers ids))) [
      | true ↦ ap (λ (l : List ℕ). id.0 ∷ l) (numbers-kept p ids)
      | false ↦ numbers-kept p ids
    ]
