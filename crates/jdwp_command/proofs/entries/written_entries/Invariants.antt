use Rattle.std.proofs.Common.{◌≡◌, ◌≤◌, ◌+◌, length, map, vec_len, vec_capacity, take}
use Rattle.jdwp_layout.specs.Meanings.{entry_meanings}
use Rattle.jdwp_command.specs.Contents.{written_entry}
use Rattle.jdwp_command.proofs.entries.written_entries.Given as goal

abbrev pub invariant-loop-slot : goal.invariant-loop-slot
invariant-loop-slot l = record {
  made : entry_meanings l.entries.items ≡ map written_entry (take l.slot-index l.values);
  room : vec_len l.entries + length l.values ≤ vec_capacity l.entries + l.slot-index;
}
