-- What becomes of a machine: the states that steps, ends, writes of slots and made strings lead to, and who has used up the steps of the script.
use Rattle.std.specs.Prelude.{◌≡◌, ℕ, ℤ, ◌-◌, Bool, true, false, List, [], ◌∷◌, length, slice_get, Option, Some, None, option_and_then}
use Rattle.jdwp_value.specs.declared.value.Value.{Value}
use Rattle.jdwp_event.specs.Occurrences.{runs_out}
use Rattle.jdwp_machine.specs.Meanings.{has}
use Rattle.jdwp_script.specs.Parts.{StepPart, ThreadPart}
use Rattle.jdwp_script.specs.References.{goes_back}
use Rattle.jdwp_script_machine.specs.States.{State, living, thread_at}
use Rattle.jdwp_script_machine.specs.Sites.{thread_in}
use Rattle.jdwp_script_machine.specs.Steps.{next_step, next, stepped, ended}
use Rattle.jdwp_script_machine.specs.SlotWrites.{written}
use Rattle.jdwp_script_machine.specs.Made.{made}

-- what is done to a machine: a thread steps, it ends, slots of a frame of it are written, or a string of a text is made
pub data Deed : Type 0 where
  Steps : ℕ → Deed
  Ends : ℕ → Deed
  Writes : ℕ → ℕ → List (ℤ × Value) → Deed
  Makes : List ℕ → Deed

abbrev pub after : State → Deed → State
after s (Steps t) = stepped s t
after s (Ends t) = ended s t
after s (Writes t f values) = written s t f values
after s (Makes text) = made s text

-- a thread that lives may end, and may step where it has not run out
abbrev pub MayBe : State → Deed → Type 0
MayBe s (Steps t) = (has (living s.threads) t ≡ true) × (runs_out (next s t) ≡ false)
MayBe s (Ends t) = has (living s.threads) t ≡ true
MayBe s (Writes t f values) = Unit {0}
MayBe s (Makes text) = Unit {0}

-- one after the other
abbrev pub after_all : State → List Deed → State
after_all s [] = s
after_all s (d ∷ ds) = after_all (after s d) ds

abbrev pub MayAllBe : State → List Deed → Type 0
MayAllBe s [] = Unit {0}
MayAllBe s (d ∷ ds) = MayBe s d × MayAllBe (after s d) ds

-- the script has no more steps for this thread
abbrev pub HasUsedUp : State → ℕ → Type 0
HasUsedUp s t = option_and_then (next_step s.script) (thread_at s t) ≡ None

-- A thread that lives has run out only where it has used up its steps: a step that is left can be made.
abbrev pub CanGoOn : State → Type 0
CanGoOn s = (t : ℕ) → has (living s.threads) t ≡ true → runs_out (next s t) ≡ true → HasUsedUp s t

abbrev pub is_back : Option StepPart → Bool
is_back None = false
is_back (Some step) = goes_back step

-- whether a list of steps ends with an `again`
abbrev pub goes_round : List StepPart → Bool
goes_round steps = is_back (slice_get steps (length steps - 1))

-- A thread that lives and whose list ends with an `again` has not run out: it goes on for ever.
abbrev pub NeverRunsOut : State → Type 0
NeverRunsOut s = (t : ℕ) (p : ThreadPart) → has (living s.threads) t ≡ true → thread_in s.script t ≡ Some p → goes_round p.steps ≡ true → runs_out (next s t) ≡ false
