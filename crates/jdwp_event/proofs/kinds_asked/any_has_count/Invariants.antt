use Rattle.std.proofs.Common.{◌≡◌, drop}
use Rattle.jdwp_event.specs.KindsAsked.{any_has_count}
use Rattle.jdwp_event.proofs.kinds_asked.any_has_count.Given as goal

abbrev pub invariant-loop-request : goal.invariant-loop-request
invariant-loop-request l = any_has_count (drop l.request-index l.requests) ≡ any_has_count l.requests
