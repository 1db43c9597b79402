use Rattle.std.proofs.Common.{take}
use Rattle.jdwp_script.specs.Meanings.{script_part}
use Rattle.jdwp_script_machine.specs.Layers.{Gains, is_in, some_above}
use Rattle.jdwp_script_machine.proofs.layers.next_layer.Given as goal

abbrev pub invariant-loop-id : goal.invariant-loop-id
invariant-loop-id l = record {
  found : Gains l.fn.found l.found (some_above (script_part l.script) (take l.id-index l.layer));
  listed : Gains l.fn.found l.found (is_in l.next.items);
}
