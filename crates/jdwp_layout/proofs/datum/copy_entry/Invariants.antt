use Rattle.std.proofs.Common.{◌≡◌, ◌≤◌, ◌+◌, length, vec_len, vec_capacity, take}
use Rattle.jdwp_layout.specs.Meanings.{entry_meaning, scalar_meanings}
use Rattle.jdwp_layout.proofs.datum.copy_entry.Given as goal

abbrev pub invariant-loop-field : goal.invariant-loop-field
invariant-loop-field l = record {
  made : entry_meaning l.copy ≡ scalar_meanings (take l.field-index l.entry);
  room : vec_len l.copy + length l.entry ≤ vec_capacity l.copy + l.field-index;
}
