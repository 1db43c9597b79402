use Rattle.std.proofs.Common.{◌≡◌, drop, map}
use Rattle.jdwp_event.specs.ModifierMeanings.{modifier_meaning}
use Rattle.std.specs.List.{list_any}
use Rattle.jdwp_debuggee.specs.Refusals.{is_location}
use Rattle.jdwp_debuggee.proofs.refusals.has_location.Given as goal

abbrev pub invariant-loop-modifier : goal.invariant-loop-modifier
invariant-loop-modifier l =
    list_any is_location (map modifier_meaning (drop l.modifier-index l.modifiers)) ≡ list_any is_location (map modifier_meaning l.modifiers)
