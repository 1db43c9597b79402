use Rattle.std.proofs.Common.{◌≡◌, drop}
use Rattle.jdwp_event.specs.Told.{events_thread}
use Rattle.jdwp_event.proofs.told.thread_in_events.Given as goal

abbrev pub invariant-loop-event : goal.invariant-loop-event
invariant-loop-event l = events_thread (drop l.event-index l.events) ≡ events_thread l.events
