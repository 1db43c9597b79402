use Rattle.std.proofs.Common.{◌≡◌, drop}
use Rattle.jdwp_layout.specs.Meanings.{entry_meanings}
use Rattle.jdwp_machine.specs.Laws.{takes_memory}
use Rattle.jdwp_script_machine.specs.ClassAnswers.{field_values, answer_entries}
use Rattle.jdwp_script_machine.proofs.field_values.have_values.Given as goal

abbrev pub invariant-loop-entry : goal.invariant-loop-entry
invariant-loop-entry g l =
    takes_memory (answer_entries (field_values (g.T.Fielded.held l.owner) (entry_meanings (drop l.entry-index l.entries))))
    ≡ takes_memory (answer_entries (field_values (g.T.Fielded.held l.owner) (entry_meanings l.entries)))
