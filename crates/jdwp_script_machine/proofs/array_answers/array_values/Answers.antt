use Rattle.jdwp_script.specs.Meanings.{script_part}
use Rattle.jdwp_script_machine.specs.ObjectAnswers.{elements_answer}
use Rattle.jdwp_script_machine.proofs.Alone.{answers_asked, wants_asked}
use Rattle.jdwp_script_machine.proofs.array_answers.array_values.Goals as goal

pub returns-in-Ok : goal.returns-in-Ok
returns-in-Ok c = record {
  value = answers_asked c.values_of.result _ _ (c.in-Ok.ensures (elements_answer (script_part c.args.state.now.script))) c.values_of.ensures.value;
  memory = wants_asked c.values_of.result _ _ (c.in-Ok.ensures (elements_answer (script_part c.args.state.now.script))) c.values_of.ensures.memory;
}
