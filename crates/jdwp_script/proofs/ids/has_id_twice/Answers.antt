use Rattle.std.proofs.lemmas.Grind.{common_steps}
use Rattle.std.proofs.lemmas.List.Concat.{flat_map_single}
use Rattle.std.proofs.Common.{map, ap, arith}
use Rattle.jdwp_script.specs.Parts.{ClassPart}
use Rattle.jdwp_script.specs.Meanings.{class_part}
use Rattle.jdwp_script.specs.Twice.{is_twice}
use Rattle.jdwp_script.proofs.ids.has_id_twice.Goals as goal

pub returns-then-branch : goal.returns-then-branch
returns-then-branch c =
    let same = ap is_twice (flat_map_single (λ (k : ClassPart). k.id) (map class_part c.args.script.now.classes.items)) in
    grind (arith, common_steps, same)

pub returns : goal.returns
returns c =
    let same = ap is_twice (flat_map_single (λ (k : ClassPart). k.id) (map class_part c.args.script.now.classes.items)) in
    grind (arith, common_steps, same)
