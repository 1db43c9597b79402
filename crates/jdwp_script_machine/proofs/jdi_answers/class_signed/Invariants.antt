use Rattle.std.proofs.Common.{◌≡◌, drop, map}
use Rattle.jdwp_script.specs.Meanings.{class_part}
use Rattle.jdwp_script_machine.specs.JdiAnswers.{class_signed}
use Rattle.jdwp_script_machine.proofs.jdi_answers.class_signed.Given as goal

abbrev pub invariant-loop-class : goal.invariant-loop-class
invariant-loop-class l = class_signed l.signature (map class_part (drop l.class-index l.classes)) ≡ class_signed l.signature (map class_part l.classes)
