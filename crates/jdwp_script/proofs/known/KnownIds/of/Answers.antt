use Rattle.std.proofs.Common.{map, ap, ◌∙◌}
use Rattle.jdwp_script.specs.Parts.{GroupPart, ClassPart, ObjectPart, ThreadPart, ModulePart}
use Rattle.jdwp_script.specs.Meanings.{group_part, class_part, object_part, thread_part, module_part}
use Rattle.jdwp_script.specs.References.{with_classes, no_methods}
use Rattle.jdwp_script.specs.Twice.{field_ids}
use Rattle.jdwp_script.proofs.Sets.{id_each, holds_same}
use Rattle.jdwp_script.proofs.known.KnownIds.of.Goals as goal

pub returns : goal.returns
returns c =
    let s = c.args.script.now in
    let group = holds_same c.in_ok-id_set.field-0 _ _ (id_each group_part (λ (g : GroupPart). g.id) s.groups.items c.deref.result.now c.deref.ensures.value) c.in_ok-id_set.ensures in
    let class = holds_same c.in_ok-id_set-2.field-0 _ _ (id_each class_part (λ (k : ClassPart). k.id) s.classes.items c.deref-2.result.now c.deref-2.ensures.value) c.in_ok-id_set-2.ensures in
    let field = holds_same c.in_ok-id_set-3.field-0 _ _ (ap (λ cs. field_ids (map class_part cs)) c.deref-3.ensures.value) c.in_ok-id_set-3.ensures in
    let object = holds_same c.in_ok-id_set-4.field-0 _ _ (id_each object_part (λ (o : ObjectPart). o.id) s.objects.items c.deref-4.result.now c.deref-4.ensures.value) c.in_ok-id_set-4.ensures in
    let thread = holds_same c.in_ok-id_set-5.field-0 _ _ (id_each thread_part (λ (t : ThreadPart). t.id) s.threads.items c.deref-5.result.now c.deref-5.ensures.value) c.in_ok-id_set-5.ensures in
    let module_id = holds_same c.in_ok-id_set-6.field-0 _ _ (id_each module_part (λ (m : ModulePart). m.id) s.modules.items c.deref-6.result.now c.deref-6.ensures.value) c.in_ok-id_set-6.ensures in
    let value = holds_same c.in_ok-set_of.field-0 _ _ (c.deref-7.ensures.value ∙ c.in_ok-value_ids.ensures) c.in_ok-set_of.ensures in
    let last = c.in_ok-lasts_of.ensures ∙ ap (λ cs. with_classes (map class_part cs) no_methods) c.deref-8.ensures.value in
    λ i. record { group = λ n. group n i; class = λ n. class n i; field = λ n. field n i; object = λ n. object n i; thread = λ n. thread n i; «module» = λ n. module_id n i; value = λ n. value n i; last = last i }
