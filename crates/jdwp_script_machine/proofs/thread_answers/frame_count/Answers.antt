use Rattle.jdwp_script_machine.specs.ThreadAnswers.{frame_count_answer}
use Rattle.jdwp_script_machine.proofs.Alone.{answers_alone, wants_alone}
use Rattle.jdwp_script_machine.proofs.thread_answers.frame_count.Goals as goal

pub returns-in-Ok-default-empty : goal.returns-in-Ok-default-empty
returns-in-Ok-default-empty c =
    let found = c.in-Ok-default-empty in
    record {
      value = answers_alone c.count_of.result _ _ found.field-0-1.now (found.ensures frame_count_answer) found.len_below c.count_of.ensures.value;
      memory = wants_alone c.count_of.result _ _ found.field-0-1.now (found.ensures frame_count_answer) found.len_below c.count_of.ensures.memory;
    }
