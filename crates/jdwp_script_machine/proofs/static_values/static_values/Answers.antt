use Rattle.std.proofs.Common.{◌≡◌, IfOk, IfErr, IsTrue, sym, subst}
use Rattle.jdwp_layout.specs.declared.answer.Answer.{Answer}
use Rattle.jdwp_script.specs.Meanings.{class_part}
use Rattle.jdwp_script_machine.specs.ClassAnswers.{answer_entries, field_values, static_value}
use Rattle.jdwp_machine.specs.Laws.{takes_memory}
use Rattle.jdwp_script_machine.proofs.static_values.static_values.Goals as goal

pub returns-in-Some : goal.returns-in-Some
returns-in-Some c =
    let same = c.in-Some.ensures (λ entries. answer_entries (field_values (static_value (class_part c.args.class.now)) entries)) in
    record {
      value = subst (λ (x : Answer). IfOk c.values_asked.result (λ a. a ≡ x)) (sym same) c.values_asked.ensures.value;
      memory = subst (λ (x : Answer). IfErr c.values_asked.result (λ _. IsTrue (takes_memory x))) (sym same) c.values_asked.ensures.memory;
    }
