use Rattle.std.proofs.Common.{◌≡◌, take}
use Rattle.std.specs.List.{filter_map}
use Rattle.jdwp_layout.specs.Meanings.{entry_meanings}
use Rattle.jdwp_action.specs.Actions.{slot_of}
use Rattle.jdwp_debuggee.proofs.command.slots_of.Given as goal

abbrev pub invariant-loop-entry : goal.invariant-loop-entry
invariant-loop-entry l = l.slots.items ≡ filter_map slot_of (entry_meanings (take l.entry-index l.entries))
