use Rattle.std.proofs.Common.{◌≡◌, ◌++◌, take, drop, map}
use Rattle.jdwp_script_machine.specs.LookUps.{changed}
use Rattle.jdwp_script_machine.specs.States.{ClassNow}
use Rattle.jdwp_script_machine.specs.StateMeanings.{class_now}
use Rattle.jdwp_script_machine.specs.Steps.{ready}
use Rattle.jdwp_script_machine.proofs.steps.prepare.Given as goal

abbrev pub invariant-loop-entry : goal.invariant-loop-entry
invariant-loop-entry l =
    map class_now (take l.entry-index l.classes) ++ changed (λ (c : ClassNow). c.id) l.class.0 ready (map class_now (drop l.entry-index l.classes)) ≡ changed (λ (c : ClassNow). c.id) l.class.0 ready (map class_now l.fn.classes)
