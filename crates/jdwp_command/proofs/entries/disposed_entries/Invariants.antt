use Rattle.std.proofs.Common.{◌≡◌, ◌≤◌, ◌+◌, length, map, vec_len, vec_capacity, take}
use Rattle.jdwp_layout.specs.Meanings.{entry_meanings}
use Rattle.jdwp_command.specs.Contents.{disposed_entry}
use Rattle.jdwp_command.proofs.entries.disposed_entries.Given as goal

abbrev pub invariant-loop-object : goal.invariant-loop-object
invariant-loop-object l = record {
  made : entry_meanings l.entries.items ≡ map disposed_entry (take l.object-index l.objects);
  room : vec_len l.entries + length l.objects ≤ vec_capacity l.entries + l.object-index;
}
