use Rattle.std.proofs.Common.{◌≡◌, IfOk, IfErr, IsTrue, sym, subst}
use Rattle.jdwp_layout.specs.declared.answer.Answer.{Answer}
use Rattle.jdwp_script_machine.specs.ClassAnswers.{statics_answer}
use Rattle.jdwp_machine.specs.Laws.{takes_memory}
use Rattle.jdwp_script_machine.proofs.class_answers.values_of_class.Goals as goal

pub returns-in-Ok : goal.returns-in-Ok
returns-in-Ok c = record {
  value = subst (λ (x : Answer). IfOk c.static_values.result (λ a. a ≡ x)) (sym (c.in-Ok.ensures statics_answer)) c.static_values.ensures.value;
  memory = subst (λ (x : Answer). IfErr c.static_values.result (λ _. IsTrue (takes_memory x))) (sym (c.in-Ok.ensures statics_answer)) c.static_values.ensures.memory;
}
