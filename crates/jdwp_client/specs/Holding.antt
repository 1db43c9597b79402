-- Which commands may let a thread run as a target carries them out (JDWP specification, "Protocol Details": VirtualMachine.Dispose, which
-- resumes all threads, VirtualMachine.Resume, ThreadReference.Resume, and the commands that invoke a method).
use Rattle.std.specs.Prelude.{ℕ, ◌==◌, Bool, true, false, ◌||◌, ◌&&◌, not, Option, Some, None}
use Rattle.std.specs.List.{list_any}
use Rattle.jdwp_value.specs.declared.id.ObjectId.{ObjectId}
use Rattle.jdwp_mirror.specs.declared.command.CommandKind.{CommandKind}
use Rattle.jdwp_mirror.specs.declared.command.CommandKind.TheVariants as kinds
use Rattle.jdwp_action.specs.Actions
use Rattle.jdwp_action.specs.Actions.{Action, Command, action_of}
use Rattle.jdwp_apart.specs.Messages.{is_invocation}
use Rattle.jdwp_debugger.specs.Debuggers.{Debugger, Unanswered, unanswered}
use Rattle.jdwp_debugger.specs.Holding.{is_held}

abbrev pub frees : ℕ → Action → Bool
frees t Actions.Dispose = true
frees t Actions.Resume = true
frees t (Actions.ResumeThread u) = u == t
frees t action = false

-- the same by the kind of a command, and the thread that it is about
abbrev pub frees_one : ℕ → Option ObjectId → Bool
frees_one t None = false
frees_one t (Some u) = u.0 == t

abbrev pub frees_by : CommandKind → Option ObjectId → ℕ → Bool
frees_by kinds.Dispose about t = true
frees_by kinds.Resume about t = true
frees_by kinds.ResumeThread about t = frees_one t about
frees_by kind about t = false

-- it resumes the thread, or invokes a method
abbrev pub may_free : ℕ → Command → Bool
may_free t c = is_invocation c || frees t (action_of c)

-- the thread is held, and no command that may let it run is unanswered
abbrev pub is_surely_suspended : Debugger → ℕ → Bool
is_surely_suspended d t = is_held d t && not (list_any (λ (u : Unanswered). may_free t u.command) (unanswered d.pending))
