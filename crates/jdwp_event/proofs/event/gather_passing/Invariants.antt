use Rattle.std.proofs.Common.{◌≡◌, ◌++◌, map, drop}
use Rattle.std.specs.Prelude.{max}
use Rattle.jdwp_event.specs.Filters.{passing}
use Rattle.jdwp_event.specs.Composites.{event_for, greatest_policy}
use Rattle.jdwp_event.proofs.event.gather_passing.Given as goal

abbrev pub invariant-loop-request : goal.invariant-loop-request
invariant-loop-request l = record {
  policy : max l.policy (greatest_policy (passing l.happening (drop l.request-index l.fn.requests))) ≡ greatest_policy (passing l.happening l.fn.requests);
  events : l.events.items ++ map (event_for l.happening) (passing l.happening (drop l.request-index l.fn.requests)) ≡ map (event_for l.happening) (passing l.happening l.fn.requests);
}
