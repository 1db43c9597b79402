use Rattle.std.proofs.Common.{◌≡◌, IfOk, IfErr, IsTrue, sym, ◌∙◌, subst}
use Rattle.jdwp_layout.specs.declared.answer.Answer.{Answer}
use Rattle.jdwp_script.specs.Parts.{ClassPart}
use Rattle.jdwp_script.specs.Meanings.{class_part}
use Rattle.jdwp_script_machine.specs.Requests.{alone}
use Rattle.jdwp_script_machine.specs.StateMeanings.{state_now}
use Rattle.jdwp_machine.specs.Laws.{takes_memory}
use Rattle.jdwp_script_machine.specs.ClassQuestions.{class_answer_to}
use Rattle.jdwp_script_machine.proofs.Alone.{alone_none, alone_more}
use Rattle.jdwp_script_machine.proofs.class_answers.of_prepared.Goals as goal

pub returns-in-Ok-default-empty : goal.returns-in-Ok-default-empty
returns-in-Ok-default-empty c =
    let found = c.in-Ok-default-empty in
    let answers = λ (class : ClassPart). class_answer_to (state_now c.args.state.now) c.args.question class in
    let same = found.ensures (λ class. alone (answers class)) ∙ alone_none (answers (class_part found.class.now)) found.field-0-1.now found.len_below in
    record {
      value = subst (λ (x : Answer). IfOk c.class_answer_to.result (λ a. a ≡ x)) (sym same) c.class_answer_to.ensures.value;
      memory = subst (λ (x : Answer). IfErr c.class_answer_to.result (λ _. IsTrue (takes_memory x))) (sym same) c.class_answer_to.ensures.memory;
    }

pub returns-in-Ok-clause-value : goal.returns-in-Ok-clause-value
returns-in-Ok-clause-value c =
    let answers = λ (class : ClassPart). class_answer_to (state_now c.args.state.now) c.args.question class in
    sym (c.in-Ok.ensures (λ class. alone (answers class)) ∙ alone_more (answers (class_part c.in-Ok.field-0.0.now)) c.in-Ok.field-0.1.now c.in-Ok.len_at_least)
