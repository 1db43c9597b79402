use Rattle.std.proofs.Common.{◌≡◌, drop, map}
use Rattle.jdwp_script.specs.Meanings.{class_part}
use Rattle.jdwp_script.specs.IdSets.{has}
use Rattle.jdwp_script.specs.References.{nothing, types_lost}
use Rattle.jdwp_script.proofs.references.types_lost.Given as goal

abbrev pub invariant-loop-class : goal.invariant-loop-class
invariant-loop-class l = types_lost (has l.before) (map class_part (drop l.class-index l.classes)) ≡ types_lost nothing (map class_part l.classes)
