use Rattle.std.proofs.Common.{◌≡◌, ◌≤◌, ◌+◌, length, map, vec_len, vec_capacity, take}
use Rattle.jdwp_layout.specs.Meanings.{entry_meanings}
use Rattle.jdwp_command.specs.Contents.{slot_entry}
use Rattle.jdwp_command.proofs.entries.slot_entries.Given as goal

abbrev pub invariant-loop-slot : goal.invariant-loop-slot
invariant-loop-slot l = record {
  made : entry_meanings l.entries.items ≡ map slot_entry (take l.slot-index l.slots);
  room : vec_len l.entries + length l.slots ≤ vec_capacity l.entries + l.slot-index;
}
