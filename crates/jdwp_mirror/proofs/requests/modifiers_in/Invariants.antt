use Rattle.std.proofs.Common.{◌≡◌, take}
use Rattle.jdwp_event.specs.Modifiers.{modifiers_of}
use Rattle.jdwp_event.specs.RequestParts.{modifiers_meaning}
use Rattle.jdwp_layout.specs.Meanings.{entry_meanings}
use Rattle.jdwp_mirror.proofs.requests.modifiers_in.Given as goal

abbrev pub invariant-loop-entry : goal.invariant-loop-entry
invariant-loop-entry l = modifiers_meaning l.modifiers ≡ modifiers_of (entry_meanings (take l.entry-index l.entries))
