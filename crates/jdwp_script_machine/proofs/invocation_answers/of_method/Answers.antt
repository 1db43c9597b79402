use Rattle.jdwp_script_machine.specs.InvocationAnswers.{returned_answer}
use Rattle.jdwp_script_machine.specs.Requests.{of_method_in}
use Rattle.jdwp_script_machine.proofs.Alone.{answers_asked, wants_asked}
use Rattle.jdwp_script_machine.proofs.invocation_answers.of_method.Goals as goal

pub returns-in-Ok : goal.returns-in-Ok
returns-in-Ok c =
    let same = c.in-Ok.ensures (of_method_in (returned_answer c.args.sizes.now)) in
    record {
      value = answers_asked c.of_method_in.result _ _ same c.of_method_in.ensures.value;
      memory = wants_asked c.of_method_in.result _ _ same c.of_method_in.ensures.memory;
    }
