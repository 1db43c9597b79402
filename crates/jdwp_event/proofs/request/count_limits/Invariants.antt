use Rattle.std.proofs.Common.{◌≡◌, ◌++◌, take, drop}
use Rattle.jdwp_event.specs.Filters.{passes_all}
use Rattle.jdwp_event.specs.RequestParts.{origin_meaning, asked_modifiers, times_reached, limits_after}
use Rattle.jdwp_event.proofs.request.count_limits.Given as goal

abbrev pub invariant-loop-limit : goal.invariant-loop-limit
invariant-loop-limit l = record {
  passed :
      passes_all (origin_meaning l.origin) l.happening (asked_modifiers (drop l.limit-index l.limits)) (times_reached (drop l.limit-index l.limits))
      ≡ passes_all (origin_meaning l.origin) l.happening (asked_modifiers l.fn.limits) (times_reached l.fn.limits);
  reached :
      take l.limit-index l.limits ++ limits_after (origin_meaning l.origin) l.happening (drop l.limit-index l.limits)
      ≡ limits_after (origin_meaning l.origin) l.happening l.fn.limits;
}
