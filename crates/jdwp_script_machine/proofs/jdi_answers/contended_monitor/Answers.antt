use Rattle.jdwp_script_machine.specs.JdiAnswers.{contended_answer}
use Rattle.jdwp_script_machine.proofs.Alone.{answers_alone, data_alone}
use Rattle.jdwp_script_machine.proofs.jdi_answers.contended_monitor.Goals as goal

pub returns-in-Ok-default-empty : goal.returns-in-Ok-default-empty
returns-in-Ok-default-empty c =
    let found = c.in-Ok-default-empty in
    record {
      value = answers_alone c.of_scalar.result _ _ found.field-0-1.now (found.ensures contended_answer) found.len_below c.of_scalar.ensures;
      memory = data_alone c.of_scalar.result _ _ found.field-0-1.now (found.ensures contended_answer) found.len_below c.of_scalar.ensures;
    }
