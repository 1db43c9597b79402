-- Bytes that leave a debugger: where none leaves nothing changes, and bytes that leave one behind the other leave as if at once.
use Rattle.std.proofs.Common.{◌≡◌, ℕ, List, [], ◌++◌, ap}
use Rattle.jdwp_end.specs.Ends.{End}
use Rattle.jdwp_end.specs.TakingLaws as end
use Rattle.jdwp_debugger.specs.Debuggers.{Debugger, with_taken}

pub taken-none : (d : Debugger) → with_taken [] d ≡ d
taken-none d = ap (λ (e : End). record d { end = e }) (end.taken-none d.end)

pub taken-twice : (first then : List ℕ) (d : Debugger) → with_taken then (with_taken first d) ≡ with_taken (first ++ then) d
taken-twice first then d = ap (λ (e : End). record d { end = e }) (end.taken-twice first then d.end)
