use Rattle.std.proofs.Common.{map}
use Rattle.std.proofs.lemmas.List.Concat.{flat_map_single}
use Rattle.jdwp_script.specs.Parts.{FieldPart}
use Rattle.jdwp_script.specs.Meanings.{field_part}
use Rattle.jdwp_script.proofs.ids.FieldIdsGatherClass.gather.Goals as goal

pub returns : goal.returns
returns c = rw (← flat_map_single (λ (f : FieldPart). f.id) (map field_part c.args.class.now.fields.items), ← c.deref.ensures.value) c.gather_each.ensures
