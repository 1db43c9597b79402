use Rattle.jdwp_script_machine.specs.ObjectAnswers.{string_value_answer}
use Rattle.jdwp_script_machine.proofs.Alone.{answers_alone, wants_alone}
use Rattle.jdwp_script_machine.proofs.object_answers.string_value.Goals as goal

pub returns-in-Ok-default-empty : goal.returns-in-Ok-default-empty
returns-in-Ok-default-empty c =
    let found = c.in-Ok-default-empty in
    record {
      value = answers_alone c.text_of.result _ _ found.field-0-1.now (found.ensures string_value_answer) found.len_below c.text_of.ensures.value;
      memory = wants_alone c.text_of.result _ _ found.field-0-1.now (found.ensures string_value_answer) found.len_below c.text_of.ensures.memory;
    }
