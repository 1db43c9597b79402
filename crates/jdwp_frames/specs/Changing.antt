-- Which commands may change what was answered of a thread's frames (JDWP specification, "Protocol Details": those that let a thread run, as
-- VirtualMachine.Dispose and Resume, ThreadReference.Resume and those that invoke a method; VirtualMachine.Exit and RedefineClasses,
-- ThreadReference.ForceEarlyReturn, StackFrame.SetValues and PopFrames), and as long as which of them none is unanswered.
use Rattle.std.specs.Prelude.{ℕ, ◌==◌, nat_lt, Bool, true, ◌||◌, ◌&&◌, not, Option, Some, None}
use Rattle.std.specs.List.{list_any}
use Rattle.jdwp_action.specs.Actions.{Command}
use Rattle.jdwp_client.specs.Holding.{may_free}
use Rattle.jdwp_debugger.specs.Debuggers.{Debugger, Unanswered, unanswered}
use Rattle.jdwp_debugger.specs.Holding.{is_held}

-- By the set and the number of a command: it ends the machine, may change frames though their thread stays suspended, or is of a set that the
-- standard does not have.
abbrev pub rewrites : ℕ → ℕ → Bool
rewrites set number =
    ((set == 1) && ((number == 10) || (number == 18))) || ((set == 11) && (number == 14)) || ((set == 16) && ((number == 2) || (number == 4))) || nat_lt 17 set

-- it may let the thread run, or change its frames
abbrev pub may_change : ℕ → Command → Bool
may_change t c = may_free t c || rewrites c.set c.number

-- The thread is held, and no command is unanswered that may change what is answered of its frames.
abbrev pub do_frames_last : Debugger → ℕ → Bool
do_frames_last d t = is_held d t && not (list_any (λ (u : Unanswered). may_change t u.command) (unanswered d.pending))

-- A call that asked this command, or none, and left the debugger so, keeps what was answered of the thread's frames true.
abbrev pub leaves_frames : ℕ → Option Command → Bool
leaves_frames t None = true
leaves_frames t (Some c) = not (may_change t c)

abbrev pub keeps_frames : ℕ → Option Command → Debugger → Bool
keeps_frames t asked d = leaves_frames t asked && do_frames_last d t
