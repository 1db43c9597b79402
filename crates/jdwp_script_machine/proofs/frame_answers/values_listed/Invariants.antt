use Rattle.std.proofs.Common.{◌≡◌, ◌≤◌, ◌+◌, length, vec_len, vec_capacity, ◌++◌, map, drop}
use Rattle.jdwp_layout.specs.Meanings.{entry_meanings}
use Rattle.jdwp_script_machine.specs.StateMeanings.{slot_now}
use Rattle.jdwp_script_machine.specs.ThreadAnswers.{slot_entries}
use Rattle.jdwp_script_machine.proofs.frame_answers.values_listed.Given as goal

abbrev pub invariant-loop-entry : goal.invariant-loop-entry
invariant-loop-entry l = record {
  made : entry_meanings l.found.items ++ slot_entries (map slot_now l.slots) (entry_meanings (drop l.entry-index l.entries)) ≡ slot_entries (map slot_now l.slots) (entry_meanings l.entries);
  room : vec_len l.found + length l.entries ≤ vec_capacity l.found + l.entry-index;
}
