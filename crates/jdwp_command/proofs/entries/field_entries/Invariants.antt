use Rattle.std.proofs.Common.{◌≡◌, ◌≤◌, ◌+◌, length, map, vec_len, vec_capacity, take}
use Rattle.jdwp_layout.specs.Meanings.{entry_meanings}
use Rattle.jdwp_command.specs.Contents.{field_entry}
use Rattle.jdwp_command.proofs.entries.field_entries.Given as goal

abbrev pub invariant-loop-field : goal.invariant-loop-field
invariant-loop-field l = record {
  made : entry_meanings l.entries.items ≡ map field_entry (take l.field-index l.fields);
  room : vec_len l.entries + length l.fields ≤ vec_capacity l.entries + l.field-index;
}
