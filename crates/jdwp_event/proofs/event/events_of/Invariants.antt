use Rattle.std.proofs.Common.{◌≡◌, ◌≤◌, ◌+◌, length, vec_len, vec_capacity}
use Rattle.jdwp_layout.specs.Meanings.{entry_meanings}
use Rattle.jdwp_event.proofs.event.events_of.Given as goal

abbrev pub invariant-loop-fields : goal.invariant-loop-fields
invariant-loop-fields l = record {
  made : l.events.items ≡ entry_meanings l.yielded;
  room : vec_len l.events + length l.fields-iterator.rest.items ≤ vec_capacity l.events;
}
