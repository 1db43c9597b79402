use Rattle.jdwp_script.specs.Meanings.{script_part}
use Rattle.jdwp_script_machine.specs.JdiAnswers.{any_module_answer}
use Rattle.jdwp_script_machine.proofs.Alone.{answers_alone, data_alone}
use Rattle.jdwp_script_machine.proofs.jdi_answers.module_of_class.Goals as goal

pub returns-in-Ok-default-empty : goal.returns-in-Ok-default-empty
returns-in-Ok-default-empty c =
    let found = c.in-Ok-default-empty in
    record {
      value = answers_alone c.of_scalar.result _ _ found.field-0-1.now (found.ensures (any_module_answer (script_part c.args.script.now))) found.len_below (rw c.module_or_unnamed-id.ensures at c.of_scalar.ensures);
      memory = data_alone c.of_scalar.result _ _ found.field-0-1.now (found.ensures (any_module_answer (script_part c.args.script.now))) found.len_below (rw c.module_or_unnamed-id.ensures at c.of_scalar.ensures);
    }
