use Rattle.std.proofs.Common.{map}
use Rattle.std.proofs.lemmas.List.Concat.{flat_map_single}
use Rattle.jdwp_script.specs.Parts.{MethodPart}
use Rattle.jdwp_script.specs.Meanings.{method_part}
use Rattle.jdwp_script.proofs.ids.MethodIdsGatherClass.gather.Goals as goal

pub returns : goal.returns
returns c = rw (← flat_map_single (λ (m : MethodPart). m.id) (map method_part c.args.class.now.methods.items), ← c.deref.ensures.value) c.gather_each.ensures
