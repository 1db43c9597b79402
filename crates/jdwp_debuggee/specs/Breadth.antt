-- Which commands change what: all but a few change nothing.
use Rattle.std.specs.Prelude.{Bool, true, false, ◌&&◌, not}
use Rattle.jdwp_action.specs.Actions.{Action, Command, action_of, Suspend, Resume, Dispose, Exit, HoldEvents, ReleaseEvents, SetRequest, ClearRequest, ClearBreakpoints, SuspendThread, ResumeThread, SetSlots}
use Rattle.jdwp_debuggee.specs.Answers.{query_of}
use Rattle.jdwp_debuggee.specs.Strings.{makes_string}

-- the command changes nothing of the state
abbrev pub is_plain : Action → Bool
is_plain Suspend = false
is_plain Resume = false
is_plain Dispose = false
is_plain Exit = false
is_plain HoldEvents = false
is_plain ReleaseEvents = false
is_plain (SetRequest byte policy entries) = false
is_plain (ClearRequest byte id) = false
is_plain ClearBreakpoints = false
is_plain (SuspendThread t) = false
is_plain (ResumeThread t) = false
is_plain action = true

-- an action that changes nothing of the machine, where it makes no string
abbrev pub leaves_machine : Action → Bool
leaves_machine Exit = false
leaves_machine (SetSlots t f values) = false
leaves_machine action = true

-- the command changes nothing of the machine
abbrev pub keeps_machine : Command → Bool
keeps_machine c = not (makes_string (query_of c)) && leaves_machine (action_of c)
