-- What happens to a link, one thing at a time, and what is told of it.
use Rattle.std.specs.Prelude.{ℕ, Bool, true, false, ◌&&◌, not, List, [], ◌∷◌}
use Rattle.jdwp_layout.specs.declared.answer.Answer.{Answer}
use Rattle.jdwp_event.specs.Composites.{CompositeMeaning}
use Rattle.jdwp_action.specs.Actions.{Command}

pub data LinkEvent : Type 0 where
  -- a new session
  Attach : LinkEvent
  -- the debugger is asked to send a command
  Ask : Command → LinkEvent
  -- so many bytes of those under way come to an end
  ToTarget : ℕ → LinkEvent
  ToDebugger : ℕ → LinkEvent
  -- an end handles the message at the front of what came to it, if it is whole
  TargetTurn : LinkEvent
  DebuggerTurn : LinkEvent
  -- a thread of the machine makes a step
  Step : ℕ → LinkEvent
  -- an end notices that the connection is lost
  TargetLoses : LinkEvent
  DebuggerLoses : LinkEvent
  -- from now on the target defers the commands that may be answered later, or it defers none
  Defer : Bool → LinkEvent
  -- the target answers a deferred command: that at this place, 0 for the one deferred longest
  Release : ℕ → LinkEvent

-- Why a command is not sent, in the order of the tests.
pub data AskRefusal : Type 0 where
  Closed : AskRefusal
  NotReady : AskRefusal
  Busy : AskRefusal
  BadCommand : AskRefusal
  TooLong : AskRefusal

pub data Outcome : Type 0 where
  -- a command was sent under this ticket
  Asked : ℕ → Outcome
  Refused : AskRefusal → Outcome
  -- the command of this ticket was answered, or never will be
  Answered : ℕ → Answer → Outcome
  Lost : ℕ → Outcome
  -- a composite was read
  Seen : CompositeMeaning → Outcome

-- ---- events by which replies are deferred

abbrev pub begins_deferring : LinkEvent → Bool
begins_deferring (Defer deferring) = deferring
begins_deferring e = false

-- By none of these events a target begins to defer replies.
abbrev pub defer_nothing : List LinkEvent → Bool
defer_nothing [] = true
defer_nothing (e ∷ es) = not (begins_deferring e) && defer_nothing es
