-- What a command asks for in code, and which commands are read without memory (JDWP specification, "Protocol Details").
use Rattle.std.specs.Prelude.{ℕ, Bool, ◌||◌, Option, Some, None, Result, Ok, Err}
use Rattle.jdwp_wire.specs.declared.error_code.ErrorCode.{ErrorCode}
use Rattle.jdwp_layout.specs.CommandNumbers.{is_command, DISPOSE, ID_SIZES, SUSPEND, RESUME, HOLD_EVENTS, RELEASE_EVENTS, SUSPEND_THREAD, RESUME_THREAD, THREAD_STATUS, SUSPEND_COUNT, CLEAR_REQUEST, CLEAR_ALL_BREAKPOINTS}
use Rattle.jdwp_layout.specs.Meanings.{entry_meanings}
use Rattle.jdwp_machine.specs.declared.query.Query.{Query}
use Rattle.jdwp_action.specs.Actions
use Rattle.jdwp_action.specs.Actions.{Command, Action, action_of}
use Rattle.jdwp_debuggee.specs.Answers.{query_of}
use Rattle.jdwp_debuggee.specs.declared.command as code
use Rattle.jdwp_debuggee.specs.declared.command.Action.TheVariants as action
use Rattle.jdwp_debuggee.specs.declared.command.ParsedCommand.TheVariants as asked

-- ---- the commands that are read without memory

-- those that carry nothing; those that carry a thread; and Clear
abbrev pub carries_nothing : ℕ → ℕ → Bool
carries_nothing set number =
    is_command SUSPEND set number || (is_command RESUME set number || (is_command HOLD_EVENTS set number || (is_command RELEASE_EVENTS set number
    || (is_command ID_SIZES set number || (is_command DISPOSE set number || is_command CLEAR_ALL_BREAKPOINTS set number)))))

abbrev pub carries_thread : ℕ → ℕ → Bool
carries_thread set number =
    is_command SUSPEND_THREAD set number || (is_command RESUME_THREAD set number || (is_command THREAD_STATUS set number || is_command SUSPEND_COUNT set number))

abbrev pub is_short : ℕ → ℕ → Bool
is_short set number = carries_nothing set number || (carries_thread set number || is_command CLEAR_REQUEST set number)

-- ---- actions in code

abbrev pub action_meaning : code.Action.Action → Action
action_meaning action.Suspend = Actions.Suspend
action_meaning action.Resume = Actions.Resume
action_meaning action.Dispose = Actions.Dispose
action_meaning action.Exit = Actions.Exit
action_meaning action.HoldEvents = Actions.HoldEvents
action_meaning action.ReleaseEvents = Actions.ReleaseEvents
action_meaning (action.SetRequest kind policy entries) = Actions.SetRequest kind policy (entry_meanings entries.items)
action_meaning (action.ClearRequest kind id) = Actions.ClearRequest kind id
action_meaning action.ClearBreakpoints = Actions.ClearBreakpoints
action_meaning (action.SuspendThread t) = Actions.SuspendThread t.0
action_meaning (action.ResumeThread t) = Actions.ResumeThread t.0
action_meaning (action.SuspendCount t) = Actions.SuspendCount t.0
action_meaning (action.ThreadStatus t) = Actions.ThreadStatus t.0
action_meaning (action.SetSlots t f values) = Actions.SetSlots t.0 f.0 values.items
action_meaning (action.AskFrames t query) = Actions.AskFrames t.0
action_meaning (action.AskThread t query) = Actions.AskThread t.0
action_meaning action.AllThreads = Actions.AllThreads
action_meaning action.IdSizes = Actions.IdSizes
action_meaning (action.Ask query) = Actions.Ask

-- a question to the machine, if the action is one
abbrev pub question_in : code.Action.Action → Option Query
question_in (action.AskFrames t query) = Some query
question_in (action.AskThread t query) = Some query
question_in (action.Ask query) = Some query
question_in action.Suspend = None
question_in action.Resume = None
question_in action.Dispose = None
question_in action.Exit = None
question_in action.HoldEvents = None
question_in action.ReleaseEvents = None
question_in (action.SetRequest kind policy entries) = None
question_in (action.ClearRequest kind id) = None
question_in action.ClearBreakpoints = None
question_in (action.SuspendThread t) = None
question_in (action.ResumeThread t) = None
question_in (action.SuspendCount t) = None
question_in (action.ThreadStatus t) = None
question_in (action.SetSlots t f values) = None
question_in action.AllThreads = None
question_in action.IdSizes = None

abbrev pub question_by : Action → Query → Option Query
question_by (Actions.AskFrames t) query = Some query
question_by (Actions.AskThread t) query = Some query
question_by Actions.Ask query = Some query
question_by action query = None

-- the question that a command is, if it is one
abbrev pub question_of : Command → Option Query
question_of c = question_by (action_of c) (query_of c)

-- ---- what was read

-- what a command asks for: its action, and the question to the machine, if it is one
pub record Asking : Type 0 where
  pub action : Action
  pub question : Option Query

abbrev pub asking : code.Action.Action → Asking
asking a = record { action = action_meaning a; question = question_in a }

abbrev pub asking_of : Command → Asking
asking_of c = record { action = action_of c; question = question_of c }

abbrev pub asked_meaning : code.ParsedCommand.ParsedCommand → Result Asking ErrorCode
asked_meaning (asked.Carries a) = Ok (asking a)
asked_meaning (asked.Refuses e) = Err e

-- what is asked for by a command that reads, or why it is refused
abbrev pub asks : Result Command ErrorCode → Result Asking ErrorCode
asks (Ok c) = Ok (asking_of c)
asks (Err e) = Err e
