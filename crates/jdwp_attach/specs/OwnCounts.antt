-- The suspend counts that an engine asks for by itself, where the target sends replies and events by threads of their own.
use Rattle.std.specs.Prelude.{◌≡◌, ◌⊎◌, ◌==◌, ℕ, Bool, true, ◌||◌, not, List, [], ◌∷◌, map, Option, Some, None, is_some, Result, Ok, Err, if◌then◌else◌}
use Rattle.jdwp_layout.specs.CommandNumbers.{SUSPEND_COUNT}
use Rattle.jdwp_layout.specs.Meanings.{One, Object}
use Rattle.jdwp_event.specs.Composites.{CompositeMeaning, POLICY_ALL, POLICY_EVENT_THREAD}
use Rattle.jdwp_event.specs.Told.{composite_thread}
use Rattle.jdwp_action.specs.Actions.{Command, Content}
use Rattle.jdwp_debugger.specs.declared.faults.DebuggerFault.{DebuggerFault}
use Rattle.jdwp_debugger.specs.declared.order.Order.{Order}
use Rattle.jdwp_debugger.specs.declared.order.Order.TheVariants as order
use Rattle.jdwp_debugger.specs.declared.turning.Read.{Read}
use Rattle.jdwp_debugger.specs.Asking.{HasAsked, refusal_of_ask}
use Rattle.jdwp_debugger.specs.Debuggers.{Debugger}
use Rattle.jdwp_debugger.specs.DebuggerTurns.{Told, Seen, read_meaning}
use Rattle.jdwp_debugger.specs.FollowingKept.{following}
use Rattle.jdwp_debugger.specs.Holding.{is_held}
use Rattle.jdwp_attach.specs.declared.plans.plan_line.PlanLine.{PlanLine}

-- ---- steps of a run

-- A line of the plan, or the suspend count of a thread, for which the engine asks by itself.
pub data Step : Type 0 where
  Line : PlanLine → Step
  Count : ℕ → Step

-- the lines of the plan among them
abbrev pub planned : List Step → List PlanLine
planned [] = []
planned (Line line ∷ steps) = line ∷ planned steps
planned (Count thread ∷ steps) = planned steps

-- These are the steps of a run along these lines of the plan: the lines, in their order; and between them counts, where the target sends
-- replies and events by threads of their own, and else none.
abbrev pub AreSteps : Order → List PlanLine → List Step → Type 0
AreSteps order.One lines steps = steps ≡ map Line lines
AreSteps order.Apart lines steps = planned steps ≡ lines

-- ---- when a count is due

-- ThreadReference.SuspendCount of a thread
abbrev pub suspend_count : ℕ → Command
suspend_count thread = record { set = SUSPEND_COUNT.set; number = SUSPEND_COUNT.number; carried = Content (One (Object thread) ∷ []) }

-- the events of a composite suspend their thread
abbrev pub suspends_thread : CompositeMeaning → Bool
suspends_thread c = (c.policy == POLICY_EVENT_THREAD) || (c.policy == POLICY_ALL)

-- a thread that isn't surely suspended, as long as anybody can be told
abbrev pub unsure : Debugger → Option ℕ → Option ℕ
unsure d None = None
unsure d (Some thread) = if is_held d thread || not (is_some (following d)) then None else Some thread

abbrev pub due_apart : Told → Debugger → Option ℕ
due_apart (Seen c) d = if suspends_thread c then unsure d (composite_thread c) else None
due_apart told d = None

-- The thread whose count is due behind a turn that told this and left this debugger: that of a composite which was read, whose events
-- suspend it, and which leaves it unsure. None is where the target sends each packet as it acts, and where nobody can be told, as behind a
-- Dispose.
abbrev pub due_in : Order → Told → Debugger → Option ℕ
due_in order.One told d = None
due_in order.Apart told d = due_apart told d

abbrev pub due_count : Told → Debugger → Option ℕ
due_count told d = due_in d.order told d

-- none is behind a turn that failed
abbrev pub due_behind : Result Read DebuggerFault → Debugger → Option ℕ
due_behind (Ok read) d = due_count (read_meaning read) d
due_behind (Err fault) d = None

-- ---- what is asked

-- What was asked where this count was due: it was, unless the debugger refuses the command, which is passed over; and nothing where none was.
abbrev pub AsksDue : Option ℕ → Debugger → Debugger → List Step → Type 0
AsksDue None old new own = (own ≡ []) × (new ≡ old)
AsksDue (Some thread) old new own =
    ((own ≡ Count thread ∷ []) × (refusal_of_ask old (suspend_count thread) ≡ None) × HasAsked (suspend_count thread) old new)
    ⊎ ((own ≡ []) × (is_some (refusal_of_ask old (suspend_count thread)) ≡ true) × (new ≡ old))
