use Rattle.jdwp_script_machine.specs.StateMeanings.{state_now}
use Rattle.jdwp_script_machine.specs.ObjectAnswers.{children_answer}
use Rattle.jdwp_script_machine.proofs.Alone.{answers_alone, wants_alone}
use Rattle.jdwp_script_machine.proofs.group_answers.children.Goals as goal

pub returns-in-Ok-default-empty : goal.returns-in-Ok-default-empty
returns-in-Ok-default-empty c =
    let found = c.in-Ok-default-empty in
    record {
      value = answers_alone c.children_of.result _ _ found.field-0-1.now (found.ensures (children_answer (state_now c.args.state.now))) found.len_below c.children_of.ensures.value;
      memory = wants_alone c.children_of.result _ _ found.field-0-1.now (found.ensures (children_answer (state_now c.args.state.now))) found.len_below c.children_of.ensures.memory;
    }
