use Rattle.jdwp_script_machine.specs.JdiAnswers.{owned_answer}
use Rattle.jdwp_script_machine.proofs.Alone.{answers_alone, data_alone}
use Rattle.jdwp_script_machine.proofs.jdi_answers.owned_monitors.Goals as goal

pub returns-in-Ok-default-empty : goal.returns-in-Ok-default-empty
returns-in-Ok-default-empty c =
    let found = c.in-Ok-default-empty in
    record {
      value = answers_alone c.of_entries.result _ _ found.field-0-1.now (found.ensures owned_answer) found.len_below (rw c.new.ensures.items at c.of_entries.ensures);
      memory = data_alone c.of_entries.result _ _ found.field-0-1.now (found.ensures owned_answer) found.len_below (rw c.new.ensures.items at c.of_entries.ensures);
    }
