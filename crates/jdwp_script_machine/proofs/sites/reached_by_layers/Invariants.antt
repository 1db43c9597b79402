use Rattle.std.proofs.Common.{◌≡◌, ◌++◌, drop, map, length, filter}
use Rattle.jdwp_value.specs.declared.id.ReferenceTypeId.{ReferenceTypeId}
use Rattle.jdwp_script.specs.Parts.{ClassPart}
use Rattle.jdwp_script.specs.Meanings.{class_part, script_part}
use Rattle.jdwp_script_machine.specs.Sites.{reached, reaches_within}
use Rattle.jdwp_script_machine.proofs.sites.reached_by_layers.Given as goal

abbrev pub invariant-loop-class : goal.invariant-loop-class
invariant-loop-class l =
    map (λ (id : ReferenceTypeId). id.0) l.ids.items
    ++ filter (λ to. reaches_within (script_part l.script) (length l.script.classes.items) to l.fn.from.0) (map (λ (c : ClassPart). c.id) (map class_part (drop l.class-index l.script.classes.items)))
    ≡ reached (script_part l.script) l.fn.from.0
