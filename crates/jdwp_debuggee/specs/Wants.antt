-- When memory may be wanted to read a command and to carry it out: what refuses it wants none.
use Rattle.std.specs.Prelude.{◌≡◌, ◌⊎◌, ℕ, ◌≤◌, ◌==◌, nat_le, Bool, false, true, ◌&&◌, ◌||◌, not, List, [], length, Option, Some, None, Result, Ok, Err, IsTrue}
use Rattle.jdwp_wire.specs.declared.error_code.ErrorCode.{ErrorCode}
use Rattle.jdwp_wire.specs.ErrorCodes.{ILLEGAL_ARGUMENT, INVALID_THREAD, THREAD_NOT_SUSPENDED}
use Rattle.jdwp_event.specs.Composites.{POLICY_ALL}
use Rattle.jdwp_event.specs.Modifiers.{ModifierMeaning}
use Rattle.jdwp_machine.specs.declared.query.Query.{Query}
use Rattle.jdwp_machine.specs.Laws.{takes_memory}
use Rattle.jdwp_layout.specs.Invocations.{invocation_request}
use Rattle.jdwp_machine.specs.Meanings.{Meaning}
use Rattle.jdwp_layout.specs.Meanings.{DatumMeaning}
use Rattle.jdwp_layout.specs.Shapes.{ItemShape}
use Rattle.jdwp_action.specs.Actions
use Rattle.jdwp_action.specs.Actions.{Action, Command, action_of}
use Rattle.jdwp_debuggee.specs.Answers.{content_of}
use Rattle.jdwp_debuggee.specs.Askings.{Asking, asking_of, is_short}
use Rattle.jdwp_layout.specs.CommandNumbers.{STACK_FRAME, FRAMES, FRAME_COUNT, is_command}
use Rattle.jdwp_debuggee.specs.Refusals.{is_some_count, kind_refusal, modifiers_refusal, or_else, room_refusal, shape_refusal, unless}
use Rattle.jdwp_debuggee.specs.Invoking.{data_in}
use Rattle.jdwp_debuggee.specs.Strings.{makes_string, text_in}
use Rattle.jdwp_debuggee.specs.Settings.{Settings}
use Rattle.jdwp_debuggee.specs.State.{State, Moment, count_of}

-- ---- threads

-- a thread lives
abbrev pub is_live : State → ℕ → Bool
is_live state t = is_some_count (count_of state t)

abbrev pub is_positive : Option ℕ → Bool
is_positive None = false
is_positive (Some count) = not (count == 0)

-- it lives, and is suspended
abbrev pub is_suspended : State → ℕ → Bool
is_suspended state t = is_positive (count_of state t)

-- ---- event requests

-- the refusals of a Set that come before those of its modifiers: by its kind, its policy, and room
abbrev pub early_refusal : Settings → State → ℕ → ℕ → Option ErrorCode
early_refusal settings state byte policy =
    or_else (kind_refusal settings.profile byte) (
    or_else (unless (nat_le policy POLICY_ALL) ILLEGAL_ARGUMENT) (
    room_refusal settings state))

-- those that come after: the first of its modifiers', and of what a request of the kind must have
abbrev pub late_refusal : {S : Type 0} → Meaning S → Moment S → ℕ → List ModifierMeaning → Option ErrorCode
late_refusal m now byte modifiers = or_else (modifiers_refusal m now byte modifiers) (shape_refusal byte modifiers)

-- ---- actions

-- a question that the machine answers with data
abbrev pub AsksData : {S : Type 0} → Meaning S → S → Option Query → Type 0
AsksData m s None = ⊥
AsksData m s (Some query) = IsTrue (takes_memory (m.query s query))

-- The same, where an invocation wants memory to read its data: one whose data do not read wants none.
abbrev pub ReadsOrAsks : {S : Type 0} → Meaning S → S → Query → Option (List ItemShape) → Type 0
ReadsOrAsks m s query None = IsTrue (takes_memory (m.query s query))
ReadsOrAsks m s query (Some shapes) = (content : List DatumMeaning) × (data_in (m.sizes s) shapes query.content ≡ Ok content)

-- the same, where a string that the machine makes wants memory
abbrev pub MakesOrAsks : {S : Type 0} → Meaning S → S → Query → Bool → Type 0
MakesOrAsks m s query true = IsTrue (takes_memory (m.made_answer s (text_in query.content)))
MakesOrAsks m s query false = ReadsOrAsks m s query (invocation_request query.set query.number)

abbrev pub AsksMachine : {S : Type 0} → Meaning S → S → Option Query → Type 0
AsksMachine m s None = ⊥
AsksMachine m s (Some query) = MakesOrAsks m s query (makes_string query)

-- An action may want memory: Exit where threads live; a Set that is not refused before its modifiers; and what the machine is asked,
-- where the thread is as it has to be and the machine does not refuse it, or the data of an invocation read. No other action wants any.
abbrev pub MayWant : {S : Type 0} → Meaning S → Settings → Moment S → Option Query → Action → Type 0
MayWant m settings now question Actions.Exit = m.live now.machine ≡ [] → ⊥
MayWant m settings now question (Actions.SetRequest byte policy entries) = early_refusal settings now.state byte policy ≡ None
MayWant m settings now question (Actions.SetSlots t f values) = (is_suspended now.state t ≡ true) × IsTrue (takes_memory (m.write_answer now.machine t f values))
MayWant m settings now question (Actions.AskFrames t) = (is_suspended now.state t ≡ true) × AsksData m now.machine question
MayWant m settings now question (Actions.AskThread t) = (is_live now.state t ≡ true) × AsksData m now.machine question
MayWant m settings now question Actions.AllThreads = length now.state.threads ≤ settings.limits.packet
MayWant m settings now question Actions.Ask = AsksMachine m now.machine question
MayWant m settings now question action = ⊥

-- the same of what was asked for
abbrev pub MayWantFor : {S : Type 0} → Meaning S → Settings → Moment S → Asking → Type 0
MayWantFor m settings now asking = MayWant m settings now asking.question asking.action

-- ---- what the debuggee refuses by itself

-- a command of ThreadReference or StackFrame that is about the frames of its thread
abbrev pub asks_of_frames : ℕ → ℕ → Bool
asks_of_frames set number = (set == STACK_FRAME) || (is_command FRAMES set number || is_command FRAME_COUNT set number)

-- a command about a thread, where the thread is not alive; one about its frames, where it runs, too
abbrev pub refusal_by_count : Bool → Option ℕ → Option ErrorCode
refusal_by_count frames None = Some INVALID_THREAD
refusal_by_count frames (Some count) = unless (not (frames && (count == 0))) THREAD_NOT_SUSPENDED

-- Why the debuggee refuses a question or a Set by itself, whatever its machine would answer, if it does: the thread is not alive, or runs where
-- it has to be suspended; the kind or the policy of the request is refused, or there is no room for it.
abbrev pub own_refusal : Settings → State → Action → Option ErrorCode
own_refusal settings state (Actions.SetRequest byte policy entries) = early_refusal settings state byte policy
own_refusal settings state (Actions.SetSlots t f values) = refusal_by_count true (count_of state t)
own_refusal settings state (Actions.AskFrames t) = refusal_by_count true (count_of state t)
own_refusal settings state (Actions.AskThread t) = refusal_by_count false (count_of state t)
own_refusal settings state action = None

-- ---- commands as they come

-- the command carries data, which are kept where they are read
abbrev pub CarriesData : Command → Type 0
CarriesData c = content_of c.set c.number c.carried ≡ [] → ⊥

-- Memory may be wanted to read a command and to carry it out: it is none of those that are read without memory, the debuggee does not refuse it
-- by itself, and it carries data, or what it asks for may want memory.
pub record MayWantToHandle {S : Type 0} (m : Meaning S) (settings : Settings) (now : Moment S) (c : Command) : Type 0 where
  pub long : is_short c.set c.number ≡ false
  pub admitted : own_refusal settings now.state (action_of c) ≡ None
  pub for : CarriesData c ⊎ MayWantFor m settings now (asking_of c)

-- of a command as it was read: one that is not implemented, or whose data do not read, wants none
abbrev pub ReadsData : Result Command ErrorCode → Type 0
ReadsData (Ok c) = CarriesData c
ReadsData (Err e) = ⊥

abbrev pub MayWantAsRead : {S : Type 0} → Meaning S → Settings → Moment S → Result Command ErrorCode → Type 0
MayWantAsRead m settings now (Ok c) = MayWantToHandle m settings now c
MayWantAsRead m settings now (Err e) = ⊥

-- and of what it asks for
abbrev pub MayWantAsked : {S : Type 0} → Meaning S → Settings → Moment S → Result Asking ErrorCode → Type 0
MayWantAsked m settings now (Ok asking) = MayWantFor m settings now asking
MayWantAsked m settings now (Err e) = ⊥
