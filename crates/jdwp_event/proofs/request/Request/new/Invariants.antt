use Rattle.std.proofs.Common.{◌≡◌, ◌++◌, map}
use Rattle.jdwp_event.specs.ModifierMeanings.{modifier_meaning}
use Rattle.jdwp_event.specs.RequestParts.{new_limit}
use Rattle.jdwp_event.proofs.request.Request.new.Given as goal

abbrev pub invariant-loop-modifier : goal.invariant-loop-modifier
invariant-loop-modifier l = l.limits.items ++ map new_limit (map modifier_meaning l.modifier-iterator.rest.items) ≡ map new_limit (map modifier_meaning l.fn.modifiers.items)
