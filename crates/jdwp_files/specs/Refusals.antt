-- Why no session began.
use Rattle.std.specs.Prelude.{◌≡◌, ◌⊎◌, ℕ, List, Err}
use Rattle.std.specs.Borrow.{Bor}
use Rattle.std.specs.Str.Lines.{lines}
use Rattle.jdwp_debuggee.specs.Settings.{Settings}
use Rattle.jdwp_script.specs.declared.detail.Detail.{Detail}
use Rattle.jdwp_script.specs.declared.fault.ScriptFault.{ScriptFault}
use Rattle.jdwp_script.specs.declared.fault.ScriptFault.TheVariants as script
use Rattle.jdwp_script_machine.specs.Machines.{read_machine_as}
use Rattle.jdwp_attach.specs.declared.plans.plan_fault.PlanFault.{PlanFault}
use Rattle.jdwp_attach.specs.Plans.{BeginsNoSession, IsFirstFault}
use Rattle.jdwp_program.specs.declared.fault.Fault.{Fault}
use Rattle.jdwp_program.specs.declared.fault.Fault.TheVariants as fault
use Rattle.jdwp_program.specs.declared.fault.FileCause.{FileCause}
use Rattle.jdwp_program.specs.Files.{IsNotText, fault_of_script, fault_of_plan}

-- the file of this name is no text, and the place is told at which its bytes stop being one
abbrev pub IsFileNotText : Bor (List ℕ) → List ℕ → Fault → Type 0
IsFileNotText file bytes told = (cause : FileCause) × (told ≡ fault.File file cause) × IsNotText bytes cause

-- no session of a script began: its file is no text, or it has this fault, the first within the limits of these settings, or memory was refused
abbrev pub RefusesScript : Settings → Bor (List ℕ) → List ℕ → Fault → Type 0
RefusesScript settings file bytes told =
    IsFileNotText file bytes told
    ⊎ ((refused : ScriptFault) × (detail : Detail) × (told ≡ fault_of_script file refused detail) × ((refused ≡ script.NoMemory) ⊎ (read_machine_as settings.profile settings.limits.live bytes ≡ Err refused)))

-- no session of a plan began: its file is no text, or it has this fault, the first, or memory was refused
abbrev pub RefusesPlan : Bor (List ℕ) → List ℕ → Fault → Type 0
RefusesPlan file bytes told =
    IsFileNotText file bytes told ⊎ ((refused : PlanFault) × (told ≡ fault_of_plan file bytes refused) × IsFirstFault (lines bytes) refused)

-- the same of a plan of `attach`, of which no line is of `pair` alone; memory may be wanting for the session, too
abbrev pub RefusesAttachPlan : Bor (List ℕ) → List ℕ → Fault → Type 0
RefusesAttachPlan file bytes told =
    IsFileNotText file bytes told
    ⊎ ((refused : PlanFault) × (told ≡ fault_of_plan file bytes refused) × BeginsNoSession (lines bytes) refused)
