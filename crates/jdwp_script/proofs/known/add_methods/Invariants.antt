use Rattle.std.proofs.Common.{◌≡◌, drop, map}
use Rattle.jdwp_script.specs.Meanings.{method_part}
use Rattle.jdwp_script.specs.IdSets.{last_by}
use Rattle.jdwp_script.specs.References.{with_methods}
use Rattle.jdwp_script.proofs.known.add_methods.Given as goal

abbrev pub invariant-loop-method : goal.invariant-loop-method
invariant-loop-method l = with_methods l.class.0 (map method_part (drop l.method-index l.methods)) (last_by l.lasts) ≡ with_methods l.class.0 (map method_part l.methods) (last_by l.fn.lasts)
