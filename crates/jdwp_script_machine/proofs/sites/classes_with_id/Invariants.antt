use Rattle.std.proofs.Common.{◌≡◌, ◌++◌, ◌==◌, drop, map, filter}
use Rattle.jdwp_value.specs.declared.id.ReferenceTypeId.{ReferenceTypeId}
use Rattle.jdwp_script.specs.Meanings.{class_part, script_part}
use Rattle.jdwp_script_machine.specs.Layers.{class_ids}
use Rattle.jdwp_script_machine.proofs.sites.classes_with_id.Given as goal

abbrev pub invariant-loop-class : goal.invariant-loop-class
invariant-loop-class l =
    map (λ (id : ReferenceTypeId). id.0) l.ids.items
    ++ filter (λ id. l.fn.wanted.0 == id) (class_ids (map class_part (drop l.class-index l.script.classes.items)))
    ≡ filter (λ id. l.fn.wanted.0 == id) (class_ids (script_part l.script).classes)
