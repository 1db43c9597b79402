use Rattle.std.proofs.Common.{List, [], ◌∷◌, map, ap, ◌∙◌}
use Rattle.std.specs.List.{flat_map}
use Rattle.std.proofs.lemmas.List.Concat.{flat_map_single}
use Rattle.jdwp_script.specs.declared.script.Group.{Group}
use Rattle.jdwp_script.specs.declared.script.Object.{Object}
use Rattle.jdwp_script.specs.declared.script.Module.{Module}
use Rattle.jdwp_script.specs.declared.script.Thread.{Thread}
use Rattle.jdwp_script.specs.Parts.{GroupPart, ObjectPart, ModulePart, ThreadPart}
use Rattle.jdwp_script.specs.Meanings.{group_part, object_part, module_part, thread_part}
use Rattle.jdwp_script.specs.Twice.{group_ids, object_ids, module_ids, thread_ids}
use Rattle.jdwp_script.proofs.Sets.{four_lists}
use Rattle.jdwp_script.proofs.ids.shared_ids.Goals as goal

pub returns : goal.returns
returns c =
    let s = c.args.script.now in
    let groups = λ (gs : List Group). flat_map (λ (g : GroupPart). g.id ∷ []) (map group_part gs) in
    let objects = λ (os : List Object). flat_map (λ (o : ObjectPart). o.id ∷ []) (map object_part os) in
    let modules = λ (ms : List Module). flat_map (λ (m : ModulePart). m.id ∷ []) (map module_part ms) in
    let threads = λ (ts : List Thread). flat_map (λ (t : ThreadPart). t.id ∷ []) (map thread_part ts) in
    four_lists c.new-ids.result.items c.gather_each.new.ids.items c.gather_each-2.new.ids.items c.gather_each-3.new.ids.items c.gather_each-4.new.ids.items
    (group_ids (map group_part s.groups.items)) (object_ids (map object_part s.objects.items)) (module_ids (map module_part s.modules.items)) (thread_ids (map thread_part s.threads.items))
    (groups c.deref.result.now) (objects c.deref-2.result.now) (modules c.deref-3.result.now) (threads c.deref-4.result.now)
    c.new-ids.ensures.items c.in_ok-gather_each.ensures c.in_ok-gather_each-2.ensures c.in_ok-gather_each-3.ensures c.in_ok-gather_each-4.ensures
    (ap groups c.deref.ensures.value ∙ flat_map_single (λ (g : GroupPart). g.id) (map group_part s.groups.items))
    (ap objects c.deref-2.ensures.value ∙ flat_map_single (λ (o : ObjectPart). o.id) (map object_part s.objects.items))
    (ap modules c.deref-3.ensures.value ∙ flat_map_single (λ (m : ModulePart). m.id) (map module_part s.modules.items))
    (ap threads c.deref-4.ensures.value ∙ flat_map_single (λ (t : ThreadPart). t.id) (map thread_part s.threads.items))
