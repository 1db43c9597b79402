use Rattle.std.proofs.lemmas.Grind.{common_steps}
use Rattle.std.proofs.Common.{◌≡◌, ◌∙◌, Some, ap, not, length, arith}
use Rattle.std.proofs.lemmas.Bool.{eqb-true}
use Rattle.std.proofs.lemmas.List.{length-map}
use Rattle.std.specs.Vec.{vec_len}
use Rattle.jdwp_script.specs.Meanings.{class_part, script_part}
use Rattle.jdwp_script_machine.specs.Sites.{class_in}
use Rattle.jdwp_script_machine.proofs.Standing.{alone_if}
use Rattle.jdwp_script_machine.proofs.sites.stands_alone.Goals as goal

pub returns-then-is_empty : goal.returns-then-is_empty
returns-then-is_empty c =
    let script = script_part c.args.script.now in
    let class = class_part c.in-Some.class.now in
    let there : Some class ≡ class_in script c.args.from.0 = rw c.deref.ensures.value at c.in-Some.ensures in
    let ids = c.in-Some.class.now.interfaces in
    let empty : vec_len ids ≡ 0 = eqb-true (vec_len ids) 0 (rw c.is_empty.ensures at c.if-is_empty.true) in
    let none : length ids.items ≡ 0 = omega (arith, empty, ids.ok.0) in
    alone_if script class (class_in script c.args.from.0) _ there (length-map ids.items _ ∙ none) (ap not c.has_class.ensures)

pub returns-else-is_empty : goal.returns-else-is_empty
returns-else-is_empty c = grind (arith, common_steps)
