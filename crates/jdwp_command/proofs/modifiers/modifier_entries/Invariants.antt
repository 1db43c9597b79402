use Rattle.std.proofs.Common.{◌≡◌, ◌≤◌, ◌+◌, length, map, vec_len, vec_capacity}
use Rattle.jdwp_layout.specs.Meanings.{entry_meanings}
use Rattle.jdwp_event.specs.ModifierBytes.{modifier_entry}
use Rattle.jdwp_event.specs.ModifierMeanings.{modifier_meaning}
use Rattle.jdwp_command.proofs.modifiers.modifier_entries.Given as goal

abbrev pub invariant-loop-modifier : goal.invariant-loop-modifier
invariant-loop-modifier l = record {
  made : entry_meanings l.entries.items ≡ map modifier_entry (map modifier_meaning l.yielded);
  room : vec_len l.entries + length l.modifier-iterator.rest.items ≤ vec_capacity l.entries;
}
