use Rattle.std.proofs.Common.{◌≡◌, drop}
use Rattle.std.specs.List.{list_any}
use Rattle.jdwp_event.specs.Filters.{passes}
use Rattle.jdwp_event.proofs.event.any_matches.Given as goal

abbrev pub invariant-loop-request : goal.invariant-loop-request
invariant-loop-request l = list_any (passes l.happening) (drop l.request-index l.requests) ≡ list_any (passes l.happening) l.requests
