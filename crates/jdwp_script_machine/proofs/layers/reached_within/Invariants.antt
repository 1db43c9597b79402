use Rattle.jdwp_script.specs.Meanings.{script_part}
use Rattle.jdwp_script_machine.proofs.Reaches.{IsLayered}
use Rattle.jdwp_script_machine.proofs.layers.reached_within.Given as goal

abbrev pub invariant-loop-layers : goal.invariant-loop-layers
invariant-loop-layers l = IsLayered (script_part l.script) l.fn.from.0 l._layers l.found l.layer.items
