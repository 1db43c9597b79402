-- What a target answers in a profile beside what it answers in each: commands that the table of commands stars, and raw ones, whose data
-- it does not read (JDWP specification, "Protocol Details").
use Rattle.std.specs.Prelude.{ℕ, Bool, false, ◌||◌}
use Rattle.jdwp_layout.specs.CommandNumbers.{is_command, CREATE_STRING, CLASS_PATHS, SOURCE_DEBUG_EXTENSION, OWNED_MONITORS, CONTENDED_MONITOR}
use Rattle.jdwp_layout.specs.Invocations.{is_invocation}
use Rattle.jdwp_machine.specs.declared.profile.Profile.{Profile}
use Rattle.jdwp_machine.specs.declared.profile.Profile.TheVariants.{Standard, Jdi}

abbrev pub is_added : ℕ → ℕ → Bool
is_added set number = is_command CREATE_STRING set number || is_command SOURCE_DEBUG_EXTENSION set number || (is_command OWNED_MONITORS set number || is_command CONTENDED_MONITOR set number)

-- whether a starred command is answered in a profile
abbrev pub adds : Profile → ℕ → ℕ → Bool
adds Standard set number = false
adds Jdi set number = is_added set number

-- whether a raw command is answered in a profile, by bytes: ClassPaths, whatever bytes it carries, and invocations
abbrev pub adds_raw : Profile → ℕ → ℕ → Bool
adds_raw Standard set number = false
adds_raw Jdi set number = is_command CLASS_PATHS set number || is_invocation set number
