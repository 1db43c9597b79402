use Rattle.std.proofs.Common.{◌≡◌, ◌+◌, ◌≤◌, drop, map, length}
use Rattle.jdwp_event.specs.ModifierMeanings.{modifier_meaning}
use Rattle.std.specs.List.{filter}
use Rattle.jdwp_debuggee.specs.Refusals.{is_step}
use Rattle.jdwp_debuggee.proofs.refusals.count_steps.Given as goal

abbrev pub invariant-loop-modifier : goal.invariant-loop-modifier
invariant-loop-modifier l = record {
  counted :
      l.count + length (filter is_step (map modifier_meaning (drop l.modifier-index l.modifiers)))
      ≡ length (filter is_step (map modifier_meaning l.modifiers));
  within : l.count ≤ l.modifier-index;
}
