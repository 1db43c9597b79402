use Rattle.std.proofs.Common.{◌≡◌, ◌+◌, ◌++◌, length, vec_capacity, vec_len}
use Rattle.std.specs.Vec.Iter.{into_iter_items, into_iter_len}
use Rattle.jdwp_link.specs.EventParts.{seen_of}
use Rattle.jdwp_link.proofs.telling.tell_seen.Given as goal

-- those that were taken out are told
abbrev pub invariant-loop-composite : goal.invariant-loop-composite
invariant-loop-composite l =
    (l.yielded ++ into_iter_items l.composite-iterator ≡ into_iter_items l.initial.composite-iterator)
    × (into_iter_len l.composite-iterator ≡ length (into_iter_items l.composite-iterator))
    × (l.outcomes.items ≡ l.fn.outcomes.items ++ seen_of l.yielded)
    × (vec_len l.outcomes ≡ vec_len l.fn.outcomes + length l.yielded)
    × (vec_capacity l.outcomes ≡ vec_capacity l.fn.outcomes)
