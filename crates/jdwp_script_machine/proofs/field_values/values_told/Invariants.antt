use Rattle.std.proofs.Common.{◌≡◌, ◌++◌, drop}
use Rattle.std.specs.Prelude.{option_map}
use Rattle.jdwp_layout.specs.Meanings.{entry_meanings}
use Rattle.jdwp_script_machine.specs.ClassAnswers.{field_values}
use Rattle.jdwp_script_machine.proofs.field_values.values_told.Given as goal

abbrev pub invariant-loop-entry : goal.invariant-loop-entry
invariant-loop-entry g l =
    option_map (λ rest. entry_meanings l.values.items ++ rest) (field_values (g.T.Fielded.held l.owner) (entry_meanings (drop l.entry-index l.entries)))
    ≡ field_values (g.T.Fielded.held l.owner) (entry_meanings l.entries)
