use Rattle.std.proofs.Common.{◌≡◌, ◌∙◌, length, map, ap, arith}
use Rattle.std.proofs.lemmas.List.{with_items_is}
use Rattle.jdwp_script.specs.Meanings.{group_part, class_part, object_part, thread_part, module_part, script_part}
use Rattle.jdwp_script_machine.proofs.Rising.{put_together}
use Rattle.jdwp_script_machine.proofs.arranging.arrange.Goals as goal

pub returns : goal.returns
returns c =
    let s = c.args.script.now in
    let few_groups : length c.rise.new.parts ≡ s.groups.len = omega arith in
    let few_classes : length c.arrange_classes.new.classes ≡ s.classes.len = omega arith in
    let few_objects : length c.rise-2.new.parts ≡ s.objects.len = omega arith in
    let few_threads : length c.rise-3.new.parts ≡ s.threads.len = omega arith in
    let few_modules : length c.rise-4.new.parts ≡ s.modules.len = omega arith in
    let groups = ap (map group_part) (with_items_is s.groups c.rise.new.parts few_groups) ∙ rw c.deref_mut.ensures.value at c.rise.ensures in
    let classes = ap (map class_part) (with_items_is s.classes c.arrange_classes.new.classes few_classes) ∙ rw c.deref_mut-2.ensures.value at c.arrange_classes.ensures in
    let objects = ap (map object_part) (with_items_is s.objects c.rise-2.new.parts few_objects) ∙ rw c.deref_mut-3.ensures.value at c.rise-2.ensures in
    let threads = ap (map thread_part) (with_items_is s.threads c.rise-3.new.parts few_threads) ∙ rw c.deref_mut-4.ensures.value at c.rise-3.ensures in
    let modules = ap (map module_part) (with_items_is s.modules c.rise-4.new.parts few_modules) ∙ rw c.deref_mut-5.ensures.value at c.rise-4.ensures in
    put_together (script_part s) _ _ _ _ _ groups classes objects threads modules
