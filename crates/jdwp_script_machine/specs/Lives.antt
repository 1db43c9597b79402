-- Which threads are told of a group.
use Rattle.std.specs.Prelude.{ℕ, Bool, false, if◌then◌else◌}
use Rattle.jdwp_script.specs.Parts.{ScriptPart}
use Rattle.jdwp_script_machine.specs.States.{ThreadNow, is_living}
use Rattle.jdwp_script_machine.specs.ObjectAnswers.{is_in_group}

-- whether a thread lives and is in a group
abbrev pub lives_in : ScriptPart → ℕ → ThreadNow → Bool
lives_in script group e = if is_living e.life then is_in_group script group e.id else false
