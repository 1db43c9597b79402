use Rattle.std.proofs.Common.{◌≡◌, drop, map}
use Rattle.jdwp_script.specs.Meanings.{class_part}
use Rattle.jdwp_script.specs.IdSets.{last_by}
use Rattle.jdwp_script.specs.References.{with_classes, no_methods}
use Rattle.jdwp_script.proofs.known.lasts_of.Given as goal

abbrev pub invariant-loop-class : goal.invariant-loop-class
invariant-loop-class l = with_classes (map class_part (drop l.class-index l.classes)) (last_by l.lasts) ≡ with_classes (map class_part l.classes) no_methods
