use Rattle.std.proofs.lemmas.Grind.{common_steps}
use Rattle.std.proofs.lemmas.List.Folds.{list_any_at}
use Rattle.std.proofs.Common.{◌==◌, arith, false, map, if◌then◌else◌}
use Rattle.jdwp_script_machine.specs.States.{ClassNow}
use Rattle.jdwp_script_machine.specs.StateMeanings.{class_now}
use Rattle.jdwp_script_machine.proofs.class_look_ups.stands_prepared.Goals as goal

pub returns-then-class : goal.returns-then-class
returns-then-class c is =
    list_any_at (λ (k : ClassNow). if k.is_prepared then k.id == c.args.id.0 else false) (map class_now c.args.state.now.classes.items) c.partition_point-place.result (class_now c.in-Some.class.now) (grind (arith, common_steps)) (grind (arith, common_steps))
