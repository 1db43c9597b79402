use Rattle.std.proofs.lemmas.Grind.{common_steps}
use Rattle.std.proofs.Common.{◌≡◌, IfOk, IfErr, IsTrue, sym, ◌∙◌, subst, arith}
use Rattle.jdwp_layout.specs.declared.answer.Answer.{Answer}
use Rattle.jdwp_script.specs.Meanings.{method_part}
use Rattle.jdwp_script_machine.specs.Requests.{alone}
use Rattle.jdwp_machine.specs.Laws.{takes_memory}
use Rattle.jdwp_script_machine.specs.ClassQuestions.{method_answer_to}
use Rattle.jdwp_script_machine.proofs.Alone.{alone_none}
use Rattle.jdwp_script_machine.proofs.method_answers.of_method_in.Goals as goal

pub returns-in-Ok-default-empty : goal.returns-in-Ok-default-empty
returns-in-Ok-default-empty c =
    let found = c.in-Ok-default-empty in
    let same =
    found.ensures (λ class method. alone (method_answer_to c.args.question method))
    ∙ alone_none (method_answer_to c.args.question (method_part found.method.now)) found.field-0-1.now found.len_below in
    record {
      value = subst (λ (x : Answer). IfOk c.method_answer_to.result (λ a. a ≡ x)) (sym same) c.method_answer_to.ensures.value;
      memory = subst (λ (x : Answer). IfErr c.method_answer_to.result (λ _. IsTrue (takes_memory x))) (sym same) c.method_answer_to.ensures.memory;
    }

pub returns-in-Ok : goal.returns-in-Ok
returns-in-Ok c = grind (arith, common_steps)
