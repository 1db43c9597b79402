use Rattle.std.proofs.Common.{◌≡◌, IfOk, IfErr, IsTrue, sym, subst}
use Rattle.jdwp_layout.specs.declared.answer.Answer.{Answer}
use Rattle.jdwp_script_machine.specs.Requests.{alone, of_method_in}
use Rattle.jdwp_machine.specs.Laws.{takes_memory}
use Rattle.jdwp_script_machine.specs.ClassQuestions.{method_answer_to}
use Rattle.jdwp_script_machine.proofs.method_answers.of_method.Goals as goal

pub returns-in-Ok : goal.returns-in-Ok
returns-in-Ok c =
    let same = c.in-Ok.ensures (of_method_in (λ class method. alone (method_answer_to c.args.question method))) in
    record {
      value = subst (λ (x : Answer). IfOk c.of_method_in.result (λ a. a ≡ x)) (sym same) c.of_method_in.ensures.value;
      memory = subst (λ (x : Answer). IfErr c.of_method_in.result (λ _. IsTrue (takes_memory x))) (sym same) c.of_method_in.ensures.memory;
    }
