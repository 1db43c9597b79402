use Rattle.std.proofs.Common.{◌≡◌, drop}
use Rattle.std.specs.List.{list_any}
use Rattle.jdwp_event.specs.Told.{is_event_of}
use Rattle.jdwp_event.proofs.told.is_in_events.Given as goal

abbrev pub invariant-loop-event : goal.invariant-loop-event
invariant-loop-event l = list_any (is_event_of l.kind) (drop l.event-index l.events) ≡ list_any (is_event_of l.kind) l.events
