use Rattle.jdwp_script.specs.Meanings.{script_part}
use Rattle.jdwp_script_machine.specs.ThreadAnswers.{frames_answer}
use Rattle.jdwp_script_machine.proofs.Alone.{answers_asked, wants_asked}
use Rattle.jdwp_script_machine.proofs.thread_answers.frames.Goals as goal

pub returns-in-Ok : goal.returns-in-Ok
returns-in-Ok c = record {
  value = answers_asked c.some_of.result _ _ (c.in-Ok.ensures (frames_answer (script_part c.args.state.now.script))) c.some_of.ensures.value;
  memory = wants_asked c.some_of.result _ _ (c.in-Ok.ensures (frames_answer (script_part c.args.state.now.script))) c.some_of.ensures.memory;
}
