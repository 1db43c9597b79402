-- A machine that runs a script, as the code keeps it, and what a text is read as.
use Rattle.std.specs.Prelude.{◌≡◌, ℕ, ◌≤◌, List, length, take, Result, Ok}
use Rattle.jdwp_wire.specs.Widths.{Widths}
use Rattle.jdwp_value.specs.declared.id.ObjectId.{ObjectId}
use Rattle.jdwp_machine.specs.Meanings.{numbers}
use Rattle.jdwp_script.specs.declared.fault.ScriptFault.{ScriptFault}
use Rattle.jdwp_script.specs.Faults.{read_script}
use Rattle.jdwp_script.specs.Reading.{◌>>=◌}
use Rattle.jdwp_machine.specs.declared.profile.Profile.{Profile}
use Rattle.jdwp_machine.specs.declared.profile.Profile.TheVariants.{Standard}
use Rattle.jdwp_script_machine.specs.States.{State, living, opening_as}
use Rattle.jdwp_script_machine.specs.Sound.{IsSound}

-- The threads that live stand at the front of a list that has room for all.
pub record IsMachine (s : State) (places : List ObjectId) (count : ℕ) (widths : Widths) : Type 0 where
  pub sound : IsSound s
  pub live : numbers (take count places) ≡ living s.threads
  pub within : count ≤ length places
  pub room : length places ≡ length s.threads
  pub sizes : widths ≡ s.script.sizes

-- the machine of the script that a text is, in a profile, or the first fault of the script
abbrev pub read_machine_as : Profile → ℕ → List ℕ → Result State ScriptFault
read_machine_as profile live text = read_script live text >>= λ s. Ok (opening_as profile s)

-- in the standard profile
abbrev pub read_machine : ℕ → List ℕ → Result State ScriptFault
read_machine live text = read_machine_as Standard live text

abbrev pub itself : State → State
itself s = s
