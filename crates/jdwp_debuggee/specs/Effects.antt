-- What commands do to the debuggee, and what they are answered (JDWP specification, "Protocol Details").
use Rattle.std.specs.Prelude.{ℕ, ℤ, ◌+◌, ◌==◌, Bool, true, false, ◌&&◌, not, List, [], ◌∷◌, ◌++◌, Option, Some, None}
use Rattle.jdwp_wire.specs.declared.error_code.ErrorCode.{ErrorCode}
use Rattle.jdwp_wire.specs.ErrorCodes.{INVALID_THREAD, THREAD_NOT_SUSPENDED, NOT_IMPLEMENTED, INTERNAL}
use Rattle.jdwp_value.specs.declared.value.Value.{Value}
use Rattle.jdwp_layout.specs.declared.answer.Answer.{Answer}
use Rattle.jdwp_layout.specs.declared.answer.Answer.TheVariants.{Error}
use Rattle.jdwp_event.specs.Modifiers.{ModifierMeaning, Step, modifiers_of}
use Rattle.jdwp_event.specs.RequestLists as lists
use Rattle.jdwp_event.specs.Requests.{AskedRequest, Origin, Request, new_request}
use Rattle.jdwp_layout.specs.Invocations.{invocation_request}
use Rattle.jdwp_machine.specs.Meanings.{Meaning}
use Rattle.jdwp_debuggee.specs.Settings.{Settings}
use Rattle.jdwp_debuggee.specs.State.{State, Moment, count_of, with_counts, raised, lowered, only, at_limit, reset, restopped, dead}
use Rattle.jdwp_action.specs.Actions
use Rattle.jdwp_action.specs.Actions.{Command, Action, action_of}
use Rattle.jdwp_debuggee.specs.Answering.{is_answered}
use Rattle.jdwp_debuggee.specs.Invoking.{answer_asked}
use Rattle.jdwp_debuggee.specs.Origins.{origin_of}
use Rattle.jdwp_debuggee.specs.Refusals.{set_refusal}
use Rattle.jdwp_debuggee.specs.Strings.{makes_string, text_in}
use Rattle.jdwp_action.specs.AnswerPackets.{sizes_answer}
use Rattle.jdwp_debuggee.specs.Answers.{done, int_answer, all_threads, status_answer, query_of, frames_answer, bounded}

-- The moment after a command, its answer, whether the machine died, whose VM_DEATH follows the reply, and whether the session closes.
pub record Effect (S : Type 0) : Type 0 where
  pub after : Moment S
  pub answer : Answer
  pub dies : Bool
  pub closes : Bool

-- nothing changes
abbrev pub answered : {S : Type 0} → Moment S → Answer → Effect S
answered now answer = record { after = now; answer = answer; dies = false; closes = false }

abbrev pub refused : {S : Type 0} → Moment S → ErrorCode → Effect S
refused now e = answered now (Error e)

-- the state changes, and the machine stays
abbrev pub changes : {S : Type 0} → Moment S → State → Answer → Effect S
changes now state answer = record { after = record { state = state; machine = now.machine }; answer = answer; dies = false; closes = false }

-- ---- suspend counts, each by its test

abbrev pub suspend_by : {S : Type 0} → Moment S → Bool → Effect S
suspend_by now true = refused now INTERNAL
suspend_by now false = changes now (with_counts raised now.state) done

abbrev pub suspend_thread_at : {S : Type 0} → Moment S → ℕ → Bool → Effect S
suspend_thread_at now t true = refused now INTERNAL
suspend_thread_at now t false = changes now (with_counts (only t raised) now.state) done

abbrev pub suspend_thread_by : {S : Type 0} → Settings → Moment S → ℕ → Option ℕ → Effect S
suspend_thread_by settings now t None = refused now INVALID_THREAD
suspend_thread_by settings now t (Some count) = suspend_thread_at now t (count == settings.count_limit)

abbrev pub resume_thread_by : {S : Type 0} → Moment S → ℕ → Option ℕ → Effect S
resume_thread_by now t None = refused now INVALID_THREAD
resume_thread_by now t (Some count) = changes now (restopped (with_counts (only t lowered) now.state)) done

-- ---- what is answered where nothing changes

abbrev pub answer_count : Option ℕ → Answer
answer_count None = Error INVALID_THREAD
answer_count (Some count) = int_answer count

abbrev pub answer_status : Option ℕ → Answer
answer_status None = Error INVALID_THREAD
answer_status (Some count) = status_answer count

abbrev pub answer_frames : {S : Type 0} → Meaning S → Settings → Moment S → Command → Option ℕ → Answer
answer_frames m settings now c None = Error INVALID_THREAD
answer_frames m settings now c (Some count) = bounded settings (m.sizes now.machine) (frames_answer m now.machine c count)

abbrev pub answer_thread : {S : Type 0} → Meaning S → Settings → Moment S → Command → Option ℕ → Answer
answer_thread m settings now c None = Error INVALID_THREAD
answer_thread m settings now c (Some count) = bounded settings (m.sizes now.machine) (m.query now.machine (query_of c))

-- the answer to a question: of a thread by its count, of the debuggee, or what the machine answers, to an invocation by a thread that an
-- event stopped
abbrev pub answer_to : {S : Type 0} → Meaning S → Settings → Moment S → Command → Action → Answer
answer_to m settings now c (Actions.SuspendCount t) = answer_count (count_of now.state t)
answer_to m settings now c (Actions.ThreadStatus t) = answer_status (count_of now.state t)
answer_to m settings now c (Actions.AskFrames t) = answer_frames m settings now c (count_of now.state t)
answer_to m settings now c (Actions.AskThread t) = answer_thread m settings now c (count_of now.state t)
answer_to m settings now c Actions.AllThreads = bounded settings (m.sizes now.machine) (all_threads now.state)
answer_to m settings now c Actions.IdSizes = sizes_answer (m.sizes now.machine)
answer_to m settings now c action = answer_asked m settings now (query_of c) (invocation_request c.set c.number)

-- ---- slots

abbrev pub slots_at : {S : Type 0} → Meaning S → Moment S → ℕ → ℕ → List (ℤ × Value) → Bool → Effect S
slots_at m now t f values true = refused now THREAD_NOT_SUSPENDED
slots_at m now t f values false = record {
  after = record { state = now.state; machine = m.written now.machine t f values };
  answer = m.write_answer now.machine t f values;
  dies = false;
  closes = false;
}

abbrev pub slots_by : {S : Type 0} → Meaning S → Moment S → ℕ → ℕ → List (ℤ × Value) → Option ℕ → Effect S
slots_by m now t f values None = refused now INVALID_THREAD
slots_by m now t f values (Some count) = slots_at m now t f values (count == 0)

-- ---- strings

-- a string of this text is made: the machine changes, and the state stays
abbrev pub string_made : {S : Type 0} → Meaning S → Moment S → List ℕ → Effect S
string_made m now text = record {
  after = record { state = now.state; machine = m.made now.machine text };
  answer = m.made_answer now.machine text;
  dies = false;
  closes = false;
}

-- CreateString; or a question, at which nothing changes
abbrev pub asks_by : {S : Type 0} → Meaning S → Settings → Moment S → Command → Bool → Effect S
asks_by m settings now c true = string_made m now (text_in (query_of c).content)
asks_by m settings now c false = answered now (answer_to m settings now c Actions.Ask)

-- ---- event requests

-- the thread of a Step, or none
abbrev pub step_thread : List ModifierMeaning → Option ℕ
step_thread [] = None
step_thread (Step t size depth ∷ modifiers) = Some t
step_thread (modifier ∷ modifiers) = step_thread modifiers

abbrev pub first_origin : {S : Type 0} → Meaning S → S → Option ℕ → Origin
first_origin m s None = record { frames = 0; line = None }
first_origin m s (Some t) = origin_of m s t

-- the request that is asked for
abbrev pub asked : State → ℕ → ℕ → List ModifierMeaning → AskedRequest
asked state byte policy modifiers = record { id = state.next_request; kind = byte; policy = policy; modifiers = modifiers }

abbrev pub with_request : Request → State → State
with_request request state = record state { requests = state.requests ++ request ∷ []; next_request = state.next_request + 1 }

abbrev pub set_by : {S : Type 0} → Meaning S → Moment S → ℕ → ℕ → List ModifierMeaning → Option ErrorCode → Effect S
set_by m now byte policy modifiers (Some e) = refused now e
set_by m now byte policy modifiers None =
    changes now
    (with_request (new_request (asked now.state byte policy modifiers) (first_origin m now.machine (step_thread modifiers))) now.state)
    (int_answer now.state.next_request)

-- all but the request of this kind and id; all but those of the kind BREAKPOINT
abbrev pub without_request : ℕ → ℤ → State → State
without_request byte id state = record state { requests = lists.without byte id state.requests }

abbrev pub without_breakpoints : State → State
without_breakpoints state = record state { requests = lists.without_breakpoints state.requests }

-- ---- the end of the machine

-- every live thread ends
abbrev pub all_ended : {S : Type 0} → Meaning S → S → List ℕ → S
all_ended m s [] = s
all_ended m s (t ∷ ts) = all_ended m (m.ended s t) ts

-- ---- commands

abbrev pub does : {S : Type 0} → Meaning S → Settings → Moment S → Command → Action → Effect S
does m settings now c Actions.Suspend = suspend_by now (at_limit settings.count_limit now.state)
does m settings now c Actions.Resume = changes now (restopped (with_counts lowered now.state)) done
does m settings now c Actions.Dispose = record { after = record { state = reset now.state; machine = now.machine }; answer = done; dies = false; closes = true }
does m settings now c Actions.Exit =
    record { after = record { state = dead now.state; machine = all_ended m now.machine (m.live now.machine) }; answer = done; dies = true; closes = true }
does m settings now c Actions.HoldEvents = changes now (record now.state { held = true }) done
does m settings now c Actions.ReleaseEvents = changes now (record now.state { held = false }) done
does m settings now c (Actions.SetRequest byte policy entries) =
    set_by m now byte policy (modifiers_of entries) (set_refusal m settings now byte policy (modifiers_of entries))
does m settings now c (Actions.ClearRequest byte id) = changes now (without_request byte id now.state) done
does m settings now c Actions.ClearBreakpoints = changes now (without_breakpoints now.state) done
does m settings now c (Actions.SuspendThread t) = suspend_thread_by settings now t (count_of now.state t)
does m settings now c (Actions.ResumeThread t) = resume_thread_by now t (count_of now.state t)
does m settings now c (Actions.SetSlots t f values) = slots_by m now t f values (count_of now.state t)
does m settings now c Actions.Ask = asks_by m settings now c (makes_string (query_of c))
-- a question: nothing changes
does m settings now c action = answered now (answer_to m settings now c action)

-- ---- before the first handshake

-- the actions by which a suspend count rises
abbrev pub raises_counts : Action → Bool
raises_counts Actions.Suspend = true
raises_counts (Actions.SuspendThread t) = true
raises_counts action = false

-- whether it is too early for them
abbrev pub is_early : State → Action → Bool
is_early state action = raises_counts action && not state.handshaken

abbrev pub carried_by : {S : Type 0} → Meaning S → Settings → Moment S → Command → Action → Bool → Effect S
carried_by m settings now c action true = refused now INTERNAL
carried_by m settings now c action false = does m settings now c action

-- An action is carried out at any moment. VM_START, which follows the first handshake, may suspend every thread: until then no thread is
-- suspended, and what would suspend one is refused with INTERNAL. No command comes before the handshake, so a session meets this nowhere.
abbrev pub carried : {S : Type 0} → Meaning S → Settings → Moment S → Command → Action → Effect S
carried m settings now c action = carried_by m settings now c action (is_early now.state action)

-- ---- the effect of a command

abbrev pub effect_by : {S : Type 0} → Meaning S → Settings → Moment S → Command → Bool → Effect S
effect_by m settings now c false = refused now NOT_IMPLEMENTED
effect_by m settings now c true = does m settings now c (action_of c)

-- What a command whose data read does, and what it is answered. A command that is refused changes nothing.
abbrev pub effect : {S : Type 0} → Meaning S → Settings → Moment S → Command → Effect S
effect m settings now c = effect_by m settings now c (is_answered settings.profile c)
