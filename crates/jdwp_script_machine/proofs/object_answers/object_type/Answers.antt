use Rattle.jdwp_script.specs.Meanings.{script_part}
use Rattle.jdwp_script_machine.specs.ObjectAnswers.{object_type_answer}
use Rattle.jdwp_script_machine.proofs.Alone.{answers_alone, wants_alone}
use Rattle.jdwp_script_machine.proofs.object_answers.object_type.Goals as goal

pub returns-in-Ok-default-empty : goal.returns-in-Ok-default-empty
returns-in-Ok-default-empty c =
    let found = c.in-Ok-default-empty in
    record {
      value = answers_alone c.type_of.result _ _ found.field-0-1.now (found.ensures (object_type_answer (script_part c.args.state.now.script))) found.len_below c.type_of.ensures.value;
      memory = wants_alone c.type_of.result _ _ found.field-0-1.now (found.ensures (object_type_answer (script_part c.args.state.now.script))) found.len_below c.type_of.ensures.memory;
    }
