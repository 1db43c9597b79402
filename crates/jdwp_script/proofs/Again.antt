-- Steps in memory and what they mean: the last of them, those before it, and an `again` behind them.
use Rattle.std.proofs.Common.{◌≡◌, ℕ, ◌-◌, ◌==◌, ◌||◌, Bool, false, not, nat_lt, List, length, map, take, drop, refl, Some}
use Rattle.std.specs.Prelude.{slice_get}
use Rattle.std.specs.List.{list_any, drop-map, take-map}
use Rattle.std.proofs.lemmas.List.{length-map}
use Rattle.std.proofs.lemmas.Option.{slice_get-map}
use Rattle.jdwp_script.specs.declared.step.Step.{Step}
use Rattle.jdwp_script.specs.Meanings.{step_part}
use Rattle.jdwp_script.specs.References.{goes_back, is_once, returns_own, last_steps, again_lost, last_lost, loop_lost}

pub last_meant : (k : ℕ) (steps : List Step) → last_steps k (map step_part steps) ≡ map step_part (drop (length steps - k) steps)
last_meant k steps = rw (length-map steps step_part) (drop-map step_part (length steps - k) steps)

by_tests : (none few once own : Bool) → none ≡ false → few ≡ false → (none || (few || (once || not own))) ≡ (once || not own)
by_tests none few once own not_none not_few = rw (not_none, not_few) refl

-- an `again` that is not 0 and goes no further back than steps stand before it
pub again_is : (k : ℕ) (steps : List Step) → (k == 0) ≡ false → nat_lt (length steps) k ≡ false
    → again_lost (map step_part steps) k ≡ (list_any is_once (map step_part (drop (length steps - k) steps)) || not (returns_own 0 (map step_part (drop (length steps - k) steps))))
again_is k steps some few =
    rw (last_meant k steps, length-map steps step_part)
    (by_tests (k == 0) (nat_lt (length steps) k) (list_any is_once (map step_part (drop (length steps - k) steps))) (returns_own 0 (map step_part (drop (length steps - k) steps))) some few)

-- steps of which this is the last
pub loop_is : (steps : List Step) (last : Step) → slice_get steps (length steps - 1) ≡ Some last
    → loop_lost (map step_part steps) ≡ (list_any goes_back (map step_part (take (length steps - 1) steps)) || last_lost (map step_part (take (length steps - 1) steps)) (Some (step_part last)))
loop_is steps last is =
    rw (length-map steps step_part, take-map step_part (length steps - 1) steps, slice_get-map step_part steps (length steps - 1), is) refl

-- the same by the tests of the code, of which the first found nothing
pub loop_from : (steps : List Step) (last : Step) (bad lost : Bool) → slice_get steps (length steps - 1) ≡ Some last → bad ≡ list_any goes_back (map step_part (take (length steps - 1) steps)) → bad ≡ false
    → lost ≡ last_lost (map step_part (take (length steps - 1) steps)) (Some (step_part last)) → lost ≡ loop_lost (map step_part steps)
loop_from steps last bad lost is told none rest = rw (loop_is steps last is, ← told, none) rest
