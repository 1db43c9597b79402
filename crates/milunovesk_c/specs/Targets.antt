-- What the turns and steps of a target told, in numbers, and how a target is made of a script.
use Rattle.std.specs.Prelude.{◌≡◌, ℕ, Bool, true, false, List, Option, Some, None, Result, Ok, Err}
use Rattle.std.specs.Str.{IsUtf8}
use Rattle.jdwp_wire.specs.FaultNumbers as frames
use Rattle.jdwp_wire.specs.Limits.{standard_limits}
use Rattle.jdwp_end.specs.Ends.{front_of}
use Rattle.jdwp_machine.specs.declared.profile.Profile.TheVariants.{Standard}
use Rattle.jdwp_debuggee.specs.Settings.{IsCountLimit}
use Rattle.jdwp_debuggee.specs.State as spec
use Rattle.jdwp_script.specs.ScriptFaultNumbers.{script_fault_number}
use Rattle.jdwp_script_machine.specs.Machines.{read_machine}
use Rattle.jdwp_script_machine.specs.ScriptMeaning.{script_meaning}
use Rattle.jdwp_script_machine.specs.States.{State}
use Rattle.jdwp_target.specs.declared.target.Stepped.{Stepped}
use Rattle.jdwp_target.specs.declared.target.Stepped.TheVariants as step
use Rattle.jdwp_target.specs.declared.target.TargetFault.{TargetFault}
use Rattle.jdwp_target.specs.declared.target.TargetFault.TheVariants as fault
use Rattle.jdwp_target.specs.declared.target.Turn.{Turn}
use Rattle.jdwp_target.specs.declared.target.Turn.TheVariants as turn
use Rattle.jdwp_target.specs.Options.{settings_at}
use Rattle.jdwp_target.specs.Targets.{Target, new_target, opened_target}
use Rattle.jdwp_target.specs.Turns.{StepsAt, TurnsAt}
use Rattle.milunovesk_c.specs.declared.handled.Handled.{Handled}
use Rattle.milunovesk_c.specs.declared.judged.Judged.{Judged}
use Rattle.milunovesk_c.specs.declared.kept.Kept.{Kept}
use Rattle.milunovesk_c.specs.declared.kept.Kept.TheVariants as kept
use Rattle.milunovesk_c.specs.declared.targeting.Unmade.{Unmade}
use Rattle.milunovesk_c.specs.declared.targeting.Unmade.TheVariants as unmade
use Rattle.milunovesk_c.specs.Captures.{sound, unjudged}
use Rattle.milunovesk_c.specs.Numbers.{DONE, LIVE, NO_MEMORY, NOT_UTF8, REFUSED, FAULT}

-- ---- turns

abbrev pub handled : Turn → Handled
handled turn.Nothing = record { kind = 0; error = 0; fault = 0; id = 0 }
handled turn.Hello = record { kind = 1; error = 0; fault = 0; id = 0 }
handled (turn.Replied id e) = record { kind = 2; error = e.0; fault = 0; id = id }
handled turn.Ignored = record { kind = 3; error = 0; fault = 0; id = 0 }
handled (turn.Deferred id) = record { kind = 4; error = 0; fault = 0; id = id }

abbrev pub handled_fault : ℕ → Handled
handled_fault number = record { kind = 0; error = 0; fault = number; id = 0 }

-- how a turn is told
abbrev pub IsHandled : Result Turn TargetFault → ℕ → Handled → Type 0
IsHandled (Ok told) result out = (result ≡ DONE) × (out ≡ handled told)
IsHandled (Err (fault.Frame frame)) result out = (result ≡ FAULT) × (out ≡ handled_fault (frames.fault_number frame))
IsHandled (Err fault.NoMemory) result out = (result ≡ NO_MEMORY) × (out ≡ handled_fault 0)

pub record HasHandled (old : Target State) (result : ℕ) (out : Handled) (new : Target State) : Type 0 where
  pub answer : Result Turn TargetFault
  pub turned : TurnsAt script_meaning (front_of old.end) old answer new
  pub told : IsHandled answer result out

-- ---- steps

abbrev pub step_number : Stepped → ℕ
step_number step.Frozen = 0
step_number step.Quiet = 1
step_number step.Reported = 2
step_number step.Ended = 3

-- how a step is told
abbrev pub IsStepTold : Result Stepped TargetFault → ℕ → ℕ → Type 0
IsStepTold (Ok stepped) result out = (result ≡ DONE) × (out ≡ step_number stepped)
IsStepTold (Err fault) result out = (result ≡ NO_MEMORY) × (out ≡ 0)

pub record HasStepped (thread : ℕ) (old : Target State) (result : ℕ) (out : ℕ) (new : Target State) : Type 0 where
  pub answer : Result Stepped TargetFault
  pub stepped : StepsAt script_meaning thread old answer new
  pub told : IsStepTold answer result out

-- ---- a new one

-- the target over this machine, with these options
abbrev pub target_over : Bool → ℕ → State → Target State
target_over start_all count_limit machine =
    new_target (settings_at standard_limits (record { start_all = start_all; count_limit = count_limit; profile = Standard })) (record { state = spec.new_state (script_meaning.live machine); machine = machine })

-- the machine of the script that these bytes are, with a target over it
pub record MakesTarget (json : List ℕ) (start_all : Bool) (count_limit : ℕ) (new : Kept) : Type 0 where
  pub machine : State
  pub read : read_machine standard_limits.live json ≡ Ok machine
  pub is : new ≡ kept.Target (target_over start_all count_limit machine)

-- why none is made: for want of memory, or since the bytes are no UTF-8, the limit of suspend counts is none, or by a fault of the script
abbrev pub IsUnmade : List ℕ → ℕ → Unmade → Type 0
IsUnmade json count_limit unmade.NotUtf8 = IsUtf8 json → ⊥
IsUnmade json count_limit unmade.BadLimit = IsCountLimit count_limit → ⊥
IsUnmade json count_limit (unmade.Script fault) = read_machine standard_limits.live json ≡ Err fault
IsUnmade json count_limit unmade.NoMemory = Unit {0}

abbrev pub IsUnmadeTold : Unmade → ℕ → Judged → Type 0
IsUnmadeTold unmade.NotUtf8 result out = (result ≡ NOT_UTF8) × (out ≡ unjudged)
IsUnmadeTold unmade.BadLimit result out = (result ≡ REFUSED) × (out ≡ unjudged)
IsUnmadeTold (unmade.Script fault) result out = (result ≡ FAULT) × (out ≡ record unjudged { fault = script_fault_number fault })
IsUnmadeTold unmade.NoMemory result out = (result ≡ NO_MEMORY) × (out ≡ unjudged)

pub record Refuses (json : List ℕ) (count_limit result : ℕ) (out : Judged) : Type 0 where
  pub reason : Unmade
  pub holds : IsUnmade json count_limit reason
  pub told : IsUnmadeTold reason result out

-- Where something is kept nothing changes; else a target over the machine of the script is kept, or nothing is, and the reason is told.
abbrev pub IsTargetMade : Option Kept → List ℕ → Bool → ℕ → ℕ → Judged → Option Kept → Type 0
IsTargetMade (Some k) json start_all count_limit result out new = (result ≡ LIVE) × (out ≡ unjudged) × (new ≡ Some k)
IsTargetMade None json start_all count_limit result out (Some fresh) = (result ≡ DONE) × (out ≡ sound) × MakesTarget json start_all count_limit fresh
IsTargetMade None json start_all count_limit result out None = Refuses json count_limit result out

-- ---- sessions

abbrev pub opened_where : Bool → Target State → Target State
opened_where true t = opened_target t
opened_where false t = t
