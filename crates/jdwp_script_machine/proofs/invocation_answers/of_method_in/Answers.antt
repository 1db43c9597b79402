use Rattle.jdwp_script_machine.specs.InvocationAnswers.{returned_answer}
use Rattle.jdwp_script_machine.proofs.Alone.{answers_asked, wants_asked}
use Rattle.jdwp_script_machine.proofs.invocation_answers.of_method_in.Goals as goal

pub returns-in-Ok : goal.returns-in-Ok
returns-in-Ok c =
    let same = c.in-Ok.ensures (returned_answer c.args.sizes.now) in
    record {
      value = answers_asked c.returned_behind.result _ _ same c.returned_behind.ensures.value;
      memory = wants_asked c.returned_behind.result _ _ same c.returned_behind.ensures.memory;
    }
