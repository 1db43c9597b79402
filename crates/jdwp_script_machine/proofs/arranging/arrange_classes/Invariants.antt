use Rattle.std.proofs.Common.{◌≡◌, ◌++◌, take, drop, map}
use Rattle.jdwp_script.specs.Parts.{ClassPart}
use Rattle.jdwp_script.specs.Meanings.{class_part}
use Rattle.jdwp_value.specs.Rising.{rising}
use Rattle.jdwp_script_machine.specs.States.{class_arranged}
use Rattle.jdwp_script_machine.proofs.arranging.arrange_classes.Given as goal

abbrev pub invariant-loop-class : goal.invariant-loop-class
invariant-loop-class l =
    map class_part (take l.class-index l.classes) ++ map class_arranged (map class_part (drop l.class-index l.classes))
    ≡ map class_arranged (rising (λ (c : ClassPart). c.id) (map class_part l.fn.classes))
