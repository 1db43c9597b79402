use Rattle.jdwp_script_machine.specs.ObjectAnswers.{held_answer}
use Rattle.jdwp_script_machine.proofs.Alone.{answers_asked, wants_asked}
use Rattle.jdwp_script_machine.proofs.object_answers.held_values.Goals as goal

pub returns-in-Ok : goal.returns-in-Ok
returns-in-Ok c = record {
  value = answers_asked c.held_by.result _ _ (c.in-Ok.ensures held_answer) c.held_by.ensures.value;
  memory = wants_asked c.held_by.result _ _ (c.in-Ok.ensures held_answer) c.held_by.ensures.memory;
}
