use Rattle.std.proofs.lemmas.Grind.{common_steps}
use Rattle.std.proofs.Common.{◌∙◌, ap, Bool, arith}
use Rattle.jdwp_script.specs.declared.script.Class.{Class}
use Rattle.jdwp_script.specs.Meanings.{class_part, script_part}
use Rattle.jdwp_script_machine.specs.States.{opening_class}
use Rattle.jdwp_script_machine.specs.StateMeanings.{class_now}
use Rattle.jdwp_script_machine.specs.Sought.{class_at_opening}
use Rattle.jdwp_script_machine.proofs.Changes.{pushed}
use Rattle.jdwp_script_machine.proofs.opening.classes_of.Goals as goal

pub loop-class-preserved : goal.loop-class-preserved
loop-class-preserved c =
    let script = script_part c.args.script.now in
    let items = c.deref-class-items.ensures.value in
    let lt = rw items at c.loop-class-test.true in
    let is = rw items at c.class-item.is in
    let id = c.class-item.result.id.0 in
    let later = c.contains-is_prepared_later.ensures ∙ c.requires id in
    let here = c.opening_class.ensures ∙ (ap (λ (b : Bool). class_at_opening id b) later ∙ ap (λ (x : Class). opening_class script (class_part x)) is) in
    pushed class_now (opening_class script) class_part c.loop-class.classes.items c.push.new.self.items c.args.script.now.classes.items c.loop-class.class-index c.opening_class.result c.class-item.result lt c.loop-class.invariant here c.in_ok-push.ensures.items

pub returns : goal.returns
returns c = grind (arith, common_steps)
