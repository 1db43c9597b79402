use Rattle.std.proofs.Common.{◌≡◌, ◌∙◌, sym}
use Rattle.jdwp_layout.specs.Meanings.{meanings, entry_meanings}
use Rattle.jdwp_script_machine.specs.StateMeanings.{frame_now}
use Rattle.jdwp_script_machine.specs.ThreadAnswers.{slots_answer}
use Rattle.jdwp_script_machine.specs.SlotQuestions.{slots_told, slots_answer_is}
use Rattle.jdwp_script_machine.proofs.Alone.{answers_asked, wants_asked}
use Rattle.jdwp_script_machine.proofs.frame_answers.values_of.Goals as goal

pub returns-in-Some : goal.returns-in-Some
returns-in-Some c =
    let f = frame_now c.args.frame.now in
    let content = meanings c.args.content.now in
    let told : slots_told f.slots (entry_meanings c.in-Some.entries.now) ≡ slots_answer f content = sym (c.in-Some.ensures (slots_told f.slots)) ∙ slots_answer_is f content in
    let ok = rw c.deref.ensures.value at c.values_asked.ensures.value in
    let wants = rw c.deref.ensures.value at c.values_asked.ensures.memory in
    record {
      value = answers_asked c.values_asked.result _ _ (sym told) ok;
      memory = wants_asked c.values_asked.result _ _ (sym told) wants;
    }
