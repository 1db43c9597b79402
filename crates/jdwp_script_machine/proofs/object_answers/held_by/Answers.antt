use Rattle.std.proofs.Common.{◌≡◌, List, sym}
use Rattle.jdwp_layout.specs.Meanings.{ScalarMeaning, meanings, entry_meanings}
use Rattle.jdwp_script.specs.Meanings.{object_part}
use Rattle.jdwp_script_machine.specs.ClassAnswers.{answer_entries, field_values}
use Rattle.jdwp_script_machine.specs.ObjectAnswers.{held_value, held_answer}
use Rattle.jdwp_script_machine.proofs.Alone.{answers_asked, wants_asked}
use Rattle.jdwp_script_machine.proofs.object_answers.held_by.Goals as goal

pub returns-in-Some : goal.returns-in-Some
returns-in-Some c =
    let o = object_part c.args.object.now in
    let content = meanings c.args.content.now in
    let answer = λ (entries : List (List ScalarMeaning)). answer_entries (field_values (held_value o) entries) in
    let told : answer (entry_meanings c.in-Some.entries.now) ≡ held_answer o content = sym (c.in-Some.ensures answer) in
    record {
      value = answers_asked c.values_asked.result _ _ (sym told) c.values_asked.ensures.value;
      memory = wants_asked c.values_asked.result _ _ (sym told) c.values_asked.ensures.memory;
    }
