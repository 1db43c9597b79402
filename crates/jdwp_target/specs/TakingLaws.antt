-- Bytes that leave a target: where none leaves nothing changes, and bytes that leave one behind the other leave as if at once.
use Rattle.std.proofs.Common.{◌≡◌, ℕ, List, [], ◌++◌, ap}
use Rattle.jdwp_end.specs.Ends.{End}
use Rattle.jdwp_end.specs.TakingLaws as end
use Rattle.jdwp_target.specs.Targets.{Target, with_taken}

pub taken-none : {S : Type 0} (t : Target S) → with_taken [] t ≡ t
taken-none {S = S} t = ap (λ (e : End). record t { end = e }) (end.taken-none t.end)

pub taken-twice : {S : Type 0} (first then : List ℕ) (t : Target S) → with_taken then (with_taken first t) ≡ with_taken (first ++ then) t
taken-twice {S = S} first then t = ap (λ (e : End). record t { end = e }) (end.taken-twice first then t.end)
