use Rattle.std.proofs.Common.{◌≡◌, ◌++◌, ◌≤◌, ◌+◌, length, vec_len, vec_capacity}
use Rattle.jdwp_layout.specs.Meanings.{entry_meanings}
use Rattle.jdwp_event.proofs.event.Composite.into_data.Given as goal

abbrev pub invariant-loop-event : goal.invariant-loop-event
invariant-loop-event l = record {
  made : entry_meanings l.entries.items ++ l.event-iterator.rest.items ≡ l.initial.event-iterator.rest.items;
  room : vec_len l.entries + length l.event-iterator.rest.items ≤ vec_capacity l.entries;
}
