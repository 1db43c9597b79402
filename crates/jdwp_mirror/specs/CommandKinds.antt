-- What a command asks, as far as a debugger's mirror learns by its reply.
use Rattle.std.specs.Prelude.{ℕ, ◌==◌, List, [], Bool, true, false, Option, Some, None, if◌then◌else◌}
use Rattle.std.specs.List.{filter}
use Rattle.jdwp_wire.specs.declared.error_code.ErrorCode.{ErrorCode}
use Rattle.jdwp_value.specs.declared.id.ObjectId.{ObjectId}
use Rattle.jdwp_layout.specs.CommandNumbers.{is_command, ALL_THREADS, DISPOSE, ID_SIZES, SUSPEND, RESUME, EXIT, SUSPEND_THREAD, RESUME_THREAD, SUSPEND_COUNT, SET_REQUEST, CLEAR_REQUEST, CLEAR_ALL_BREAKPOINTS}
use Rattle.jdwp_layout.specs.Meanings.{DatumMeaning}
use Rattle.jdwp_action.specs.Actions
use Rattle.jdwp_action.specs.Actions.{Action, Command, Carried, set_action, clear_action}
use Rattle.jdwp_mirror.specs.declared.command.CommandKind.{CommandKind}
use Rattle.jdwp_mirror.specs.declared.command.CommandKind.TheVariants as kinds
use Rattle.jdwp_mirror.specs.declared.threads.Change.{Change}
use Rattle.jdwp_mirror.specs.declared.threads.Change.TheVariants.{Keep, Raise, Lower, Set}
use Rattle.jdwp_mirror.specs.declared.threads.Lesson.{Lesson}
use Rattle.jdwp_mirror.specs.declared.threads.Known.{Known}
use Rattle.jdwp_event.specs.Composites.{CompositeMeaning, POLICY_ALL}
use Rattle.jdwp_mirror.specs.Mirror.{Kept, counted, first_count, is_invalid_thread, is_last_of_thread, is_no_kept_breakpoint, lists, requests_after_data}
use Rattle.jdwp_mirror.specs.KnownThreads.{all_taught, only, with_thread, without}

abbrev pub kind_of : Action → CommandKind
kind_of Actions.Suspend = kinds.Suspend
kind_of Actions.Resume = kinds.Resume
kind_of Actions.Dispose = kinds.Dispose
kind_of Actions.Exit = kinds.Exit
kind_of Actions.HoldEvents = kinds.Other
kind_of Actions.ReleaseEvents = kinds.Other
kind_of (Actions.SetRequest kind policy entries) = kinds.Request
kind_of (Actions.ClearRequest kind id) = kinds.Clear
kind_of Actions.ClearBreakpoints = kinds.ClearBreakpoints
kind_of (Actions.SuspendThread t) = kinds.SuspendThread
kind_of (Actions.ResumeThread t) = kinds.ResumeThread
kind_of (Actions.SuspendCount t) = kinds.SuspendCount
kind_of (Actions.ThreadStatus t) = kinds.Other
kind_of (Actions.SetSlots t f slots) = kinds.Other
kind_of (Actions.AskFrames t) = kinds.Other
kind_of (Actions.AskThread t) = kinds.Other
kind_of Actions.AllThreads = kinds.AllThreads
kind_of Actions.IdSizes = kinds.IdSizes
kind_of Actions.Ask = kinds.Other

-- of a command that begins with a thread
abbrev pub thread_kind_of : Command → CommandKind
thread_kind_of c =
    if is_command SUSPEND_THREAD c.set c.number then kinds.SuspendThread else
    (if is_command RESUME_THREAD c.set c.number then kinds.ResumeThread else
    (if is_command SUSPEND_COUNT c.set c.number then kinds.SuspendCount else kinds.Other))

-- of a command of the set EventRequest
abbrev pub request_kind_of : Command → CommandKind
request_kind_of c =
    if is_command SET_REQUEST c.set c.number then kind_of (set_action c.carried) else
    (if is_command CLEAR_REQUEST c.set c.number then kind_of (clear_action c.carried) else
    (if is_command CLEAR_ALL_BREAKPOINTS c.set c.number then kinds.ClearBreakpoints else kinds.Other))

-- of any other command
abbrev pub other_kind_of : Command → CommandKind
other_kind_of c =
    if is_command SUSPEND c.set c.number then kinds.Suspend else
    (if is_command RESUME c.set c.number then kinds.Resume else
    (if is_command DISPOSE c.set c.number then kinds.Dispose else
    (if is_command EXIT c.set c.number then kinds.Exit else
    (if is_command ALL_THREADS c.set c.number then kinds.AllThreads else
    (if is_command ID_SIZES c.set c.number then kinds.IdSizes else request_kind_of c)))))

-- ---- what a reply without an error leaves of the threads

-- the count that was read, in place of what was known
abbrev pub set_to : Option ℕ → Change
set_to None = Keep
set_to (Some n) = Set n

-- what becomes of the count of the thread that the command is about
abbrev pub own_change : CommandKind → List DatumMeaning → Change
own_change kinds.SuspendThread content = Raise
own_change kinds.ResumeThread content = Lower
own_change kinds.SuspendCount content = set_to (counted content)
own_change a content = Keep

-- what becomes of the counts of all others
abbrev pub others_change : CommandKind → Change
others_change kinds.Suspend = Raise
others_change kinds.Resume = Lower
others_change a = Keep

abbrev pub shows_listed : CommandKind → Bool
shows_listed kinds.AllThreads = true
shows_listed a = false

abbrev pub lesson_of : CommandKind → Option ObjectId → List DatumMeaning → Lesson
lesson_of a thread content = record { thread = thread; own = own_change a content; others = others_change a; shows_all = shows_listed a }

-- the thread is known where a count was read
abbrev pub with_counted : Option ObjectId → Option ℕ → List Known → List Known
with_counted None count ks = ks
with_counted (Some t) None ks = ks
with_counted (Some t) (Some n) ks = with_thread t ks

-- which threads there are
abbrev pub ready_for : CommandKind → Option ObjectId → List DatumMeaning → List Known → List Known
ready_for kinds.SuspendCount thread content ks = with_counted thread (counted content) ks
ready_for kinds.AllThreads thread content ks = only (lists content) ks
ready_for kinds.Exit thread content ks = []
ready_for kinds.Dispose thread content ks = []
ready_for a thread content ks = ks

abbrev pub threads_after_others : CommandKind → Option ObjectId → List DatumMeaning → List Known → List Known
threads_after_others a thread content ks = all_taught (lesson_of a thread content) (ready_for a thread content ks)

abbrev pub threads_after_data : CommandKind → Option ObjectId → List DatumMeaning → List Known → List Known
threads_after_data kinds.Request thread content ks = ks
threads_after_data a thread content ks = threads_after_others a thread content ks

-- an error: the thread is not alive
abbrev pub threads_after_error : Option ObjectId → ErrorCode → List Known → List Known
threads_after_error None e ks = ks
threads_after_error (Some t) e ks = if is_invalid_thread e then without t.0 ks else ks

-- ---- what it leaves of the requests

abbrev pub requests_after_others : CommandKind → Carried → List DatumMeaning → List Kept → List Kept
requests_after_others kinds.Clear carried content requests = requests_after_data (clear_action carried) content requests
requests_after_others kinds.ClearBreakpoints carried content requests = filter is_no_kept_breakpoint requests
requests_after_others kinds.Exit carried content requests = []
requests_after_others kinds.Dispose carried content requests = []
requests_after_others a carried content requests = requests

abbrev pub requests_after_kind : CommandKind → Carried → List DatumMeaning → List Kept → List Kept
requests_after_kind kinds.Request carried content requests = requests_after_data (set_action carried) content requests
requests_after_kind a carried content requests = requests_after_others a carried content requests

-- ---- what a composite leaves of the threads

abbrev pub lesson_of_event : Option ObjectId → ℕ → Lesson
lesson_of_event thread policy = record { thread = thread; own = Set (first_count policy); others = if policy == POLICY_ALL then Raise else Keep; shows_all = false }

abbrev pub with_found : Option ObjectId → List Known → List Known
with_found None ks = ks
with_found (Some t) ks = with_thread t ks

abbrev pub without_found : Option ObjectId → List Known → List Known
without_found None ks = ks
without_found (Some t) ks = without t.0 ks

abbrev pub threads_after_event : Option ObjectId → CompositeMeaning → List Known → List Known
threads_after_event thread c ks =
    if is_last_of_thread c then without_found thread ks else all_taught (lesson_of_event thread c.policy) (with_found thread ks)
