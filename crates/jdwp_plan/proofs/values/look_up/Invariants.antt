use Rattle.std.proofs.Common.{◌≡◌, drop}
use Rattle.jdwp_plan.specs.Filling.{bindings, value_of}
use Rattle.jdwp_plan.proofs.values.look_up.Given as goal

abbrev pub invariant-loop-entry : goal.invariant-loop-entry
invariant-loop-entry l = value_of l.name (bindings (drop l.entry-index l.bound)) ≡ value_of l.name (bindings l.bound)
