-- Bytes that leave an end: where none leaves nothing changes, and bytes that leave one behind the other leave as if at once.
use Rattle.std.proofs.Common.{◌≡◌, ℕ, List, [], ◌++◌, append_assoc, arith}
use Rattle.std.proofs.lemmas.Grind.{common_steps}
use Rattle.std.proofs.lemmas.List.{append-nil, drop-drop, length-append}
use Rattle.jdwp_end.specs.Ends.{End, with_taken}

pub taken-none : (e : End) → with_taken [] e ≡ e
taken-none e = grind (arith, common_steps, append-nil)

pub taken-twice : (first then : List ℕ) (e : End) → with_taken then (with_taken first e) ≡ with_taken (first ++ then) e
taken-twice first then e = grind (arith, common_steps, append_assoc, drop-drop, length-append)
