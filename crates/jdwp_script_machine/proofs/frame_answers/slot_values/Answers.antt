use Rattle.jdwp_script_machine.specs.ThreadAnswers.{slots_answer}
use Rattle.jdwp_script_machine.proofs.Alone.{answers_asked, wants_asked}
use Rattle.jdwp_script_machine.proofs.frame_answers.slot_values.Goals as goal

pub returns-in-Ok : goal.returns-in-Ok
returns-in-Ok c = record {
  value = answers_asked c.values_of.result _ _ (c.in-Ok.ensures slots_answer) c.values_of.ensures.value;
  memory = wants_asked c.values_of.result _ _ (c.in-Ok.ensures slots_answer) c.values_of.ensures.memory;
}
