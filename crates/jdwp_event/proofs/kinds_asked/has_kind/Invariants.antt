use Rattle.std.proofs.Common.{◌≡◌, drop}
use Rattle.jdwp_event.specs.EventKinds.{kind_byte}
use Rattle.jdwp_event.specs.KindsAsked.{has_kind}
use Rattle.jdwp_event.proofs.kinds_asked.has_kind.Given as goal

abbrev pub invariant-loop-request : goal.invariant-loop-request
invariant-loop-request l = has_kind (kind_byte l.kind) (drop l.request-index l.requests) ≡ has_kind (kind_byte l.kind) l.requests
