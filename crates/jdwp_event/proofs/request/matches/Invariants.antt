use Rattle.std.proofs.Common.{◌≡◌, drop}
use Rattle.jdwp_event.specs.Filters.{passes_all}
use Rattle.jdwp_event.specs.RequestParts.{asked_modifiers, times_reached}
use Rattle.jdwp_event.proofs.request.matches.Given as goal

abbrev pub invariant-loop-limit : goal.invariant-loop-limit
invariant-loop-limit l =
    passes_all l.request.origin l.happening (asked_modifiers (drop l.limit-index l.limit-items)) (times_reached (drop l.limit-index l.limit-items))
    ≡ passes_all l.request.origin l.happening l.request.asked.modifiers l.request.reached
