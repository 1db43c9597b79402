use Rattle.std.proofs.Common.{◌≡◌, true, drop, map}
use Rattle.jdwp_event.specs.ModifierMeanings.{modifier_meaning}
use Rattle.std.specs.List.{list_any}
use Rattle.jdwp_debuggee.specs.Refusals.{modifiers_refusal}
use Rattle.jdwp_debuggee.specs.RefusalParts.{moment_of, asks_machine}
use Rattle.jdwp_debuggee.proofs.refusals.modifiers_refusal.Given as goal

abbrev pub invariant-loop-modifier : goal.invariant-loop-modifier
invariant-loop-modifier g l = record {
  same :
      modifiers_refusal g.M.Machine.meaning (moment_of l.threads.list l.machine) l.byte (map modifier_meaning (drop l.modifier-index l.modifiers))
      ≡ modifiers_refusal g.M.Machine.meaning (moment_of l.threads.list l.machine) l.byte (map modifier_meaning l.modifiers);
  left :
      list_any asks_machine (map modifier_meaning (drop l.modifier-index l.modifiers)) ≡ true
      → list_any asks_machine (map modifier_meaning l.modifiers) ≡ true;
}
