use Rattle.std.proofs.Common.{◌≡◌, ◌++◌}
use Rattle.jdwp_layout.specs.Meanings.{entry_meanings}
use Rattle.jdwp_event.specs.Modifiers.{modifiers_of}
use Rattle.jdwp_event.specs.RequestParts.{modifiers_meaning}
use Rattle.jdwp_event.proofs.modifier.Modifier.of_entries.Given as goal

abbrev pub invariant-loop-entry : goal.invariant-loop-entry
invariant-loop-entry l = modifiers_meaning l.modifiers ++ modifiers_of (entry_meanings l.entry-iterator.rest.items) ≡ modifiers_of (entry_meanings l.fn.entries.items)
