use Rattle.std.proofs.Common.{◌≡◌, ◌+◌, ◌++◌, take, vec_capacity, vec_len}
use Rattle.jdwp_link.specs.EventParts.{lost_of}
use Rattle.jdwp_link.proofs.telling.tell_lost.Given as goal

-- those before this one are told
abbrev pub invariant-loop-ticket : goal.invariant-loop-ticket
invariant-loop-ticket l =
    (l.outcomes.items ≡ l.fn.outcomes.items ++ lost_of (take l.ticket-index l.tickets)) × (vec_len l.outcomes ≡ vec_len l.fn.outcomes + l.ticket-index) × (vec_capacity l.outcomes ≡ vec_capacity l.fn.outcomes)
