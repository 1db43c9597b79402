use Rattle.std.proofs.Common.{◌≡◌, ◌==◌, false, drop, map, if◌then◌else◌}
use Rattle.std.specs.List.{list_any}
use Rattle.jdwp_script_machine.specs.States.{ClassNow}
use Rattle.jdwp_script_machine.specs.StateMeanings.{class_now}
use Rattle.jdwp_script_machine.proofs.class_look_ups.is_any_prepared.Given as goal

abbrev pub invariant-loop-class : goal.invariant-loop-class
invariant-loop-class l =
    list_any (λ (c : ClassNow). if c.is_prepared then c.id == l.id.0 else false) (map class_now (drop l.class-index l.state.classes.items))
    ≡ list_any (λ (c : ClassNow). if c.is_prepared then c.id == l.id.0 else false) (map class_now l.state.classes.items)
