use Rattle.std.proofs.Common.{◌≡◌, ◌≤◌, ◌+◌, length, vec_len, vec_capacity, take}
use Rattle.jdwp_layout.specs.Meanings.{entry_meanings}
use Rattle.jdwp_layout.proofs.datum.copy_entries.Given as goal

abbrev pub invariant-loop-entry : goal.invariant-loop-entry
invariant-loop-entry l = record {
  made : entry_meanings l.copy.items ≡ entry_meanings (take l.entry-index l.entries);
  room : vec_len l.copy + length l.entries ≤ vec_capacity l.copy + l.entry-index;
}
