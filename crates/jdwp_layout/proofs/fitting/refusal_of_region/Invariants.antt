use Rattle.std.proofs.Common.{◌≡◌, drop}
use Rattle.jdwp_wire.specs.Listed.{first_refusal}
use Rattle.jdwp_value.specs.Values.{value_refusal}
use Rattle.jdwp_layout.proofs.fitting.refusal_of_region.Given as goal

abbrev pub invariant-loop-value : goal.invariant-loop-value
invariant-loop-value l = first_refusal (value_refusal l.sizes) (drop l.value-index l.elements) ≡ first_refusal (value_refusal l.sizes) l.elements
