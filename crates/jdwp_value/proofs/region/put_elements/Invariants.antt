use Rattle.std.proofs.Common.{◌≡◌, ◌≤◌, ◌++◌, take, drop}
use Rattle.std.specs.List.{flat_map}
use Rattle.std.specs.Prelude.{vec_capacity}
use Rattle.jdwp_wire.specs.Each.{EncodesAll}
use Rattle.jdwp_wire.specs.Listed.{first_refusal}
use Rattle.jdwp_value.specs.Values.{value_refusal}
use Rattle.jdwp_value.specs.Regions.{EncodesElement, element_canonical}
use Rattle.jdwp_value.proofs.region.put_elements.Given as goal

abbrev pub invariant-loop-value : goal.invariant-loop-value
invariant-loop-value l = record {
  written : l.output.items ≡ l.fn.output.items ++ flat_map (element_canonical l.sizes l.tag) (take l.value-index l.values);
  capacity : vec_capacity l.fn.output ≤ vec_capacity l.output;
  encoded : EncodesAll (EncodesElement l.sizes l.tag) (take l.value-index l.values) (flat_map (element_canonical l.sizes l.tag) (take l.value-index l.values));
  refusal : first_refusal (value_refusal l.sizes) (drop l.value-index l.values) ≡ first_refusal (value_refusal l.sizes) l.values;
}
