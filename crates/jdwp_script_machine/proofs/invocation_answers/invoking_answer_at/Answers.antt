use Rattle.std.proofs.Common.{◌≡◌, ℕ, List, false, refl, rules}
use Rattle.jdwp_layout.specs.CommandNumbers.{is_command, CLASS_INVOKE, INTERFACE_INVOKE, OBJECT_INVOKE}
use Rattle.jdwp_layout.specs.Meanings.{DatumMeaning, meanings}
use Rattle.jdwp_script_machine.specs.InvocationAnswers.{invoking_answer_at}
use Rattle.jdwp_script_machine.specs.JdiAnswers.{jdi_answer_at}
use Rattle.jdwp_script_machine.specs.StateMeanings.{state_now}
use Rattle.jdwp_script_machine.specs.States.{State}
use Rattle.jdwp_script_machine.proofs.Alone.{answers_asked, wants_asked}
use Rattle.jdwp_script_machine.proofs.invocation_answers.invoking_answer_at.Goals as goal

others_as_ever : (s : State) (set number : ℕ) (content : List DatumMeaning) → is_command CLASS_INVOKE set number ≡ false → is_command INTERFACE_INVOKE set number ≡ false → is_command OBJECT_INVOKE set number ≡ false
    → invoking_answer_at s set number content ≡ jdi_answer_at s set number content
others_as_ever s set number content a b c = rw (a, b, c) refl

pub returns-in_default : goal.returns-in_default
returns-in_default c =
    let class : is_command CLASS_INVOKE c.args.set c.args.number ≡ false = search rules in
    let interface : is_command INTERFACE_INVOKE c.args.set c.args.number ≡ false = search rules in
    let object : is_command OBJECT_INVOKE c.args.set c.args.number ≡ false = search rules in
    let same = others_as_ever (state_now c.args.state.now) c.args.set c.args.number (meanings c.args.content.now) class interface object in
    record {
      value = answers_asked c.jdi_answer_at.result _ _ same c.jdi_answer_at.ensures.value;
      memory = wants_asked c.jdi_answer_at.result _ _ same c.jdi_answer_at.ensures.memory;
    }
