-- What is looked for in the steps of a script.
use Rattle.std.specs.Prelude.{ℕ, ◌==◌, Bool, false, not, [], if◌then◌else◌, Option, Some, None}
use Rattle.jdwp_script.specs.Parts.{StepPart}
use Rattle.jdwp_script_machine.specs.declared.opening.Sought.{Sought}
use Rattle.jdwp_script_machine.specs.declared.opening.Sought.TheVariants.{Starts, Prepares}
use Rattle.jdwp_script_machine.specs.States.{ThreadNow, ClassNow, Waits, Lives, starts_thread, prepares_class}

-- whether a step names this id so
abbrev pub names : Sought → ℕ → StepPart → Bool
names Starts = starts_thread
names Prepares = prepares_class

abbrev pub is_that : ℕ → Option ℕ → Bool
is_that n None = false
is_that n (Some k) = k == n

-- a thread at the beginning, where a step starts it or none does
abbrev pub thread_at_opening : ℕ → Bool → ThreadNow
thread_at_opening id is_started = record { id = id; life = if is_started then Waits else Lives; place = 0; frames = [] }

-- a class at the beginning, where a step prepares it or none does
abbrev pub class_at_opening : ℕ → Bool → ClassNow
class_at_opening id is_prepared_later = record { id = id; is_prepared = not is_prepared_later }
