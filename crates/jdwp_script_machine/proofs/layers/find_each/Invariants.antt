use Rattle.std.proofs.Common.{ℕ, take, map}
use Rattle.std.specs.BTreeSet.{BTreeSet}
use Rattle.jdwp_value.specs.declared.id.ReferenceTypeId.{ReferenceTypeId}
use Rattle.jdwp_script_machine.specs.Layers.{Gains, is_in}
use Rattle.jdwp_script_machine.proofs.layers.find_each.Given as goal

abbrev pub invariant-loop-id : goal.invariant-loop-id
invariant-loop-id l = record {
  found : Gains l.fn.found l.found (is_in (map (λ (id : ReferenceTypeId). id.0) (take l.id-index l.ids)));
  listed : (before : BTreeSet ℕ) → Gains before l.fn.found (is_in l.fn.listed.items) → Gains before l.found (is_in l.listed.items);
}
