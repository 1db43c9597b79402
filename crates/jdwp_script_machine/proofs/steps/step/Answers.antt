use Rattle.std.proofs.lemmas.Grind.{common_steps}
use Rattle.std.proofs.Common.{◌≡◌, ◌∙◌, List, length, map, ap, sym, subst, arith}
use Rattle.std.proofs.lemmas.List.{with_items_is}
use Rattle.jdwp_script.specs.Meanings.{step_part}
use Rattle.jdwp_script_machine.specs.declared.state.ThreadState.{ThreadState}
use Rattle.jdwp_script_machine.specs.declared.state.ClassState.{ClassState}
use Rattle.jdwp_script_machine.specs.States.{State}
use Rattle.jdwp_script_machine.specs.StateMeanings.{thread_now, class_now, state_now}
use Rattle.jdwp_script_machine.specs.Sound.{IsSound}
use Rattle.jdwp_script_machine.specs.SoundLaws.{stepped_sound}
use Rattle.jdwp_script_machine.proofs.Changes.{stepped_is}
use Rattle.jdwp_script_machine.proofs.steps.step.Goals as goal

pub returns-clause-ok : goal.returns-clause-ok
returns-clause-ok c =
    let s = state_now c.args.state.now in
    let found = rw c.deref.ensures.value at c.in-Some.ensures in
    let few : length c.make.new.threads ≡ c.args.state.now.threads.len = omega arith in
    let few_classes : length c.make.new.classes ≡ c.args.state.now.classes.len = omega arith in
    let threads = ap (λ (xs : List ThreadState). map thread_now xs) (with_items_is c.args.state.now.threads c.make.new.threads few) ∙ rw c.deref_mut.ensures.value at c.in_ok-make.ensures.threads in
    let classes = ap (λ (xs : List ClassState). map class_now xs) (with_items_is c.args.state.now.classes c.make.new.classes few_classes) ∙ rw c.deref_mut-2.ensures.value at c.in_ok-make.ensures.classes in
    stepped_is s c.args.thread.0 c.place_after-place.result (thread_now c.in-Some.entry.now) (step_part c.in-Some-next_step.step.now) _ _ found c.in-Some-next_step.ensures.step c.place_after-place.ensures threads classes

pub returns-clause-sound : goal.returns-clause-sound
returns-clause-sound c =
    subst (λ (s : State). IsSound s) (sym (returns-clause-ok c)) (stepped_sound (state_now c.args.state.now) c.args.thread.0 c.requires.sound c.requires.runs)

pub returns-in_err-make : goal.returns-in_err-make
returns-in_err-make c = grind (arith, common_steps)
