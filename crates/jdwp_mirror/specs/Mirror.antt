-- What a debugger learns from the packets that it reads: the suspend counts of the threads that it knows, which of them it holds for
-- suspended, and the event requests (JDWP specification, "Protocol Details": VirtualMachine, ThreadReference, StackFrame,
-- EventRequest and Event). Nothing here asks whether the target is honest.
use Rattle.jdwp_wire.specs.Numbers.{greatest_int}
use Rattle.std.specs.Prelude.{ℕ, ℤ, pos, ◌+◌, ◌-◌, ◌==◌, min, Bool, true, false, ◌||◌, ◌&&◌, not, List, [], ◌∷◌, ◌++◌, map, Option, Some, None, is_some, if◌then◌else◌}
use Rattle.std.specs.Ordering.{int_eq}
use Rattle.std.specs.List.{list_any, filter}
use Rattle.std.specs.Option.{option_map}
use Rattle.jdwp_wire.specs.declared.error_code.ErrorCode.{ErrorCode}
use Rattle.jdwp_wire.specs.ErrorCodes.{INVALID_THREAD}
use Rattle.jdwp_layout.specs.declared.answer.Answer.{Answer}
use Rattle.jdwp_layout.specs.declared.answer.Answer.TheVariants.{Data, Error}
use Rattle.jdwp_layout.specs.Meanings.{ScalarMeaning, Int, Object, DatumMeaning, One, Many}
use Rattle.jdwp_event.specs.declared.kind.EventKind.TheVariants as kind
use Rattle.jdwp_event.specs.Modifiers.{ModifierMeaning, modifiers_of}
use Rattle.jdwp_event.specs.RequestLists.{is_left, is_left_by_all}
use Rattle.jdwp_event.specs.Requests.{AskedRequest}
use Rattle.jdwp_event.specs.Composites.{CompositeMeaning, POLICY_NONE, POLICY_EVENT_THREAD, POLICY_ALL}
use Rattle.jdwp_event.specs.Told.{composite_thread, has_event, is_vm_death}
use Rattle.jdwp_action.specs.Actions
use Rattle.jdwp_action.specs.Actions.{Command, Action, action_of, thread_of, is_dispose}
use Rattle.jdwp_mirror.specs.Messages.{Message, Handshake, Reply, Report}

-- ---- what packets say

-- whether it is this thread
abbrev pub is_thread : Option ℕ → ℕ → Bool
is_thread None t = false
is_thread (Some u) t = u == t

-- the suspend count in a reply to SuspendCount
abbrev pub counted : List DatumMeaning → Option ℕ
counted (One (Int (pos n)) ∷ []) = Some n
counted content = None

-- whether a reply to AllThreads lists a thread
abbrev pub begins_with_object : ℕ → List ScalarMeaning → Bool
begins_with_object t (Object n ∷ fields) = n == t
begins_with_object t fields = false

abbrev pub lists : List DatumMeaning → ℕ → Bool
lists (Many entries ∷ []) t = list_any (begins_with_object t) entries
lists content t = false

-- the end of a thread that nobody suspends
abbrev pub is_last_of_thread : CompositeMeaning → Bool
is_last_of_thread c = has_event kind.ThreadDeath c && (c.policy == POLICY_NONE)

abbrev pub is_invalid_thread : ErrorCode → Bool
is_invalid_thread e = e.0 == INVALID_THREAD.0

-- ---- counts

-- where a count in the mirror stops; only that of a thread that has ended can get so far
abbrev pub COUNT_MOST : ℕ
COUNT_MOST = greatest_int

abbrev pub one_more : ℕ → ℕ
one_more n = min (n + 1) COUNT_MOST

-- a positive count falls by one
abbrev pub one_less : ℕ → ℕ
one_less n = n - 1

-- the count of an event's thread, which had 0 before it
abbrev pub first_count : ℕ → ℕ
first_count policy = if policy == POLICY_ALL then 1 else (if policy == POLICY_EVENT_THREAD then 1 else 0)

-- the count of another thread
abbrev pub other_count : ℕ → ℕ → ℕ
other_count policy n = if policy == POLICY_ALL then one_more n else n

-- ---- one thread's count, none where the thread is not known

-- a count that was read, in place of what was known
abbrev pub taught : Option ℕ → Option ℕ → Option ℕ
taught (Some n) count = Some n
taught None count = count

-- an OK reply
abbrev pub learned_data : Action → List DatumMeaning → ℕ → Option ℕ → Option ℕ
learned_data Actions.Suspend content t count = option_map one_more count
learned_data Actions.Resume content t count = option_map one_less count
learned_data (Actions.SuspendThread u) content t count = if u == t then option_map one_more count else count
learned_data (Actions.ResumeThread u) content t count = if u == t then option_map one_less count else count
learned_data (Actions.SuspendCount u) content t count = if u == t then taught (counted content) count else count
learned_data Actions.AllThreads content t count = if lists content t then count else None
learned_data Actions.Exit content t count = None
learned_data Actions.Dispose content t count = None
learned_data action content t count = count

-- an error: the thread that the command is about is not alive
abbrev pub learned_error : Command → ErrorCode → ℕ → Option ℕ → Option ℕ
learned_error c e t count = if is_invalid_thread e && is_thread (thread_of c) t then None else count

abbrev pub learned_reply : Command → Answer → ℕ → Option ℕ → Option ℕ
learned_reply c (Data content) t count = learned_data (action_of c) content t count
learned_reply c (Error e) t count = learned_error c e t count

-- a composite
abbrev pub own_count : CompositeMeaning → Option ℕ
own_count c = if is_last_of_thread c then None else Some (first_count c.policy)

abbrev pub learned_event : CompositeMeaning → ℕ → Option ℕ → Option ℕ
learned_event c t count = if is_thread (composite_thread c) t then own_count c else option_map (other_count c.policy) count

-- What a packet leaves of the count that the mirror has of a thread.
abbrev pub learned : Message → ℕ → Option ℕ → Option ℕ
learned Handshake t count = count
learned (Reply ticket c answer) t count = learned_reply c answer t count
learned (Report c) t count = if is_vm_death c then None else learned_event c t count

-- ---- which threads are known

abbrev pub teaches_data : Action → List DatumMeaning → ℕ → Bool
teaches_data (Actions.SuspendCount u) content t = (u == t) && is_some (counted content)
teaches_data action content t = false

abbrev pub teaches_reply : Command → Answer → ℕ → Bool
teaches_reply c (Data content) t = teaches_data (action_of c) content t
teaches_reply c (Error e) t = false

-- A packet that teaches a thread: an event of it, and an OK reply to a SuspendCount of it.
abbrev pub teaches : Message → ℕ → Bool
teaches Handshake t = false
teaches (Reply ticket c answer) t = teaches_reply c answer t
teaches (Report c) t = is_thread (composite_thread c) t

abbrev pub forgets_data : Action → List DatumMeaning → ℕ → Bool
forgets_data Actions.AllThreads content t = not (lists content t)
forgets_data Actions.Exit content t = true
forgets_data action content t = false

abbrev pub forgets_reply : Command → Answer → ℕ → Bool
forgets_reply c (Data content) t = forgets_data (action_of c) content t
forgets_reply c (Error e) t = is_invalid_thread e && is_thread (thread_of c) t

-- A packet that forgets a thread: its death where nobody is suspended, INVALID_THREAD to a command about it, a list of all threads
-- without it, and an OK reply to Exit.
abbrev pub forgets : Message → ℕ → Bool
forgets Handshake t = false
forgets (Reply ticket c answer) t = forgets_reply c answer t
forgets (Report c) t = is_last_of_thread c && is_thread (composite_thread c) t

-- ---- which threads are held

abbrev pub shows_data : Command → Action → List DatumMeaning → ℕ → Bool
shows_data c Actions.AllThreads content t = lists content t
shows_data c action content t = is_thread (thread_of c) t

abbrev pub shows_reply : Command → Answer → ℕ → Bool
shows_reply c (Data content) t = shows_data c (action_of c) content t
shows_reply c (Error e) t = false

-- A packet that shows a thread alive: an event of it, an OK reply to a command of ThreadReference or StackFrame about it, and a list
-- of all threads with it.
abbrev pub shows : Message → ℕ → Bool
shows Handshake t = false
shows (Reply ticket c answer) t = shows_reply c answer t
shows (Report c) t = is_thread (composite_thread c) t

abbrev pub is_positive : Option ℕ → Bool
is_positive None = false
is_positive (Some n) = not (n == 0)

-- Whether a thread is held after a packet, where it was held before or not, and has this count now: it is known with a count above 0,
-- and either this packet shows it alive or it was held before.
abbrev pub held_after : Message → ℕ → Bool → Option ℕ → Bool
held_after message t before count = is_positive count && (shows message t || before)

-- ---- event requests

-- A request in the mirror: as asked, under the id in the reply, which is an int.
pub record Kept : Type 0 where
  pub id : ℤ
  pub kind : ℕ
  pub policy : ℕ
  pub modifiers : List ModifierMeaning

-- a request of the target, as the mirror keeps it
abbrev pub kept : AskedRequest → Kept
kept asked = record { id = pos asked.id; kind = asked.kind; policy = asked.policy; modifiers = asked.modifiers }

abbrev pub all_kept : List AskedRequest → List Kept
all_kept requests = map kept requests

-- the id in a reply to EventRequest.Set
abbrev pub given_id : List DatumMeaning → Option ℤ
given_id (One (Int id) ∷ []) = Some id
given_id content = None

abbrev pub has_other_id : ℤ → Kept → Bool
has_other_id id r = not (int_eq r.id id)

-- the request as asked under that id, in place of an older one
abbrev pub with_kept : Option ℤ → ℕ → ℕ → List ModifierMeaning → List Kept → List Kept
with_kept None kind policy modifiers requests = requests
with_kept (Some id) kind policy modifiers requests =
    filter (has_other_id id) requests ++ record { id = id; kind = kind; policy = policy; modifiers = modifiers } ∷ []

-- what Clear and ClearAllBreakpoints leave of the requests that are kept
abbrev pub is_not_kept : ℕ → ℤ → Kept → Bool
is_not_kept kind id r = is_left kind id r.kind r.id

abbrev pub is_no_kept_breakpoint : Kept → Bool
is_no_kept_breakpoint r = is_left_by_all r.kind

abbrev pub requests_after_data : Action → List DatumMeaning → List Kept → List Kept
requests_after_data (Actions.SetRequest byte policy entries) content requests = with_kept (given_id content) byte policy (modifiers_of entries) requests
requests_after_data (Actions.ClearRequest byte id) content requests = filter (is_not_kept byte id) requests
requests_after_data Actions.ClearBreakpoints content requests = filter is_no_kept_breakpoint requests
requests_after_data Actions.Exit content requests = []
requests_after_data Actions.Dispose content requests = []
requests_after_data action content requests = requests

abbrev pub requests_after_reply : Command → Answer → List Kept → List Kept
requests_after_reply c (Data content) requests = requests_after_data (action_of c) content requests
requests_after_reply c (Error e) requests = requests

-- What a packet leaves of the mirror's requests.
abbrev pub requests_after : Message → List Kept → List Kept
requests_after Handshake requests = requests
requests_after (Reply ticket c answer) requests = requests_after_reply c answer requests
requests_after (Report c) requests = if is_vm_death c then [] else requests

-- ---- which packets end a session

abbrev pub ends_reply : Command → Answer → Bool
ends_reply c (Data content) = is_dispose (action_of c)
ends_reply c (Error e) = false

-- An OK reply to Dispose and VM_DEATH close the debugger's end and empty its mirror.
abbrev pub ends : Message → Bool
ends Handshake = false
ends (Reply ticket c answer) = ends_reply c answer
ends (Report c) = is_vm_death c
