use Rattle.std.proofs.Common.{◌≡◌, ◌≤◌, ◌+◌, ◌++◌, map, length, drop, vec_len, vec_capacity}
use Rattle.jdwp_event_fields.specs.Events.{event_says}
use Rattle.jdwp_event_fields.proofs.event_set.events_of.Given as goal

abbrev pub invariant-loop-event : goal.invariant-loop-event
invariant-loop-event l = record {
  made : map event_says l.made.items ++ drop l.event-index l.events ≡ l.events;
  room : vec_len l.made + length (drop l.event-index l.events) ≤ vec_capacity l.made;
}
