use Rattle.jdwp_script_machine.specs.ObjectAnswers.{array_length_answer}
use Rattle.jdwp_script_machine.proofs.Alone.{answers_alone, wants_alone}
use Rattle.jdwp_script_machine.proofs.array_answers.array_length.Goals as goal

pub returns-in-Ok-default-empty : goal.returns-in-Ok-default-empty
returns-in-Ok-default-empty c =
    let found = c.in-Ok-default-empty in
    record {
      value = answers_alone c.length_of.result _ _ found.field-0-1.now (found.ensures array_length_answer) found.len_below c.length_of.ensures.value;
      memory = wants_alone c.length_of.result _ _ found.field-0-1.now (found.ensures array_length_answer) found.len_below c.length_of.ensures.memory;
    }
