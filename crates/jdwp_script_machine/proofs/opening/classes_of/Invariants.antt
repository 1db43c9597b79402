use Rattle.std.proofs.Common.{◌≡◌, map, take}
use Rattle.jdwp_script.specs.Meanings.{class_part, script_part}
use Rattle.jdwp_script_machine.specs.States.{opening_class}
use Rattle.jdwp_script_machine.specs.StateMeanings.{class_now}
use Rattle.jdwp_script_machine.proofs.opening.classes_of.Given as goal

abbrev pub invariant-loop-class : goal.invariant-loop-class
invariant-loop-class l = map class_now l.classes.items ≡ map (opening_class (script_part l.script)) (map class_part (take l.class-index l.script.classes.items))
