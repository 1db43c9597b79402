-- Where variables are valid (JDWP specification, "Method": VariableTable).
use Rattle.std.specs.Prelude.{ℕ, pos, ◌≤ℤ◌, ◌<ℤ◌, ◌+ℤ◌}
use Rattle.milunovesk.specs.Answer.VariableEntry.{VariableEntry}

-- from its first code index on, for so many
abbrev pub IsValidAt : VariableEntry → ℕ → Type 0
IsValidAt variable index = (variable.code_index ≤ℤ pos index) × (pos index <ℤ (variable.code_index +ℤ variable.length))
