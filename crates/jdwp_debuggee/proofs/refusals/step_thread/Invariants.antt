use Rattle.std.proofs.Common.{◌≡◌, drop, map}
use Rattle.jdwp_event.specs.ModifierMeanings.{modifier_meaning}
use Rattle.jdwp_debuggee.specs.Effects.{step_thread}
use Rattle.jdwp_debuggee.proofs.refusals.step_thread.Given as goal

abbrev pub invariant-loop-modifier : goal.invariant-loop-modifier
invariant-loop-modifier l =
    step_thread (map modifier_meaning (drop l.modifier-index l.modifiers)) ≡ step_thread (map modifier_meaning l.modifiers)
