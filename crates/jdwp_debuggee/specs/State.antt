-- The state of the debuggee (JDWP specification: the sets VirtualMachine, ThreadReference and EventRequest).
use Rattle.std.specs.Prelude.{ℕ, ◌+◌, ◌-◌, ◌^◌, ◌%◌, Bool, true, false, ◌==◌, not, List, [], ◌∷◌, ◌++◌, map, Option, Some, None, if◌then◌else◌}
use Rattle.std.specs.List.{list_any, filter}
use Rattle.jdwp_event.specs.Requests.{Request}

-- A live thread: its suspend count, and whether its death was reported.
pub record Thread : Type 0 where
  pub id : ℕ
  pub suspend_count : ℕ
  pub death_reported : Bool

-- The live threads; the event requests by rising id; whether events are held; whether the first handshake of the target's life
-- was completed; whether the machine is alive; the ids of the next request and of the target's next packet; and the threads that an event
-- stopped, in the order in which it did.
pub record State : Type 0 where
  pub threads : List Thread
  pub requests : List Request
  pub held : Bool
  pub handshaken : Bool
  pub alive : Bool
  pub next_request : ℕ
  pub next_packet : ℕ
  pub stopped : List ℕ

-- The state, and that of the machine, at one moment.
pub record Moment (S : Type 0) : Type 0 where
  pub state : State
  pub machine : S

-- ---- threads

-- a live thread
abbrev pub thread_in : List Thread → ℕ → Option Thread
thread_in [] t = None
thread_in (entry ∷ entries) t = if entry.id == t then Some entry else thread_in entries t

abbrev pub count_by : Option Thread → Option ℕ
count_by None = None
count_by (Some entry) = Some entry.suspend_count

-- the suspend count of a thread, or none where it is not alive
abbrev pub count_in : List Thread → ℕ → Option ℕ
count_in threads t = count_by (thread_in threads t)

abbrev pub count_of : State → ℕ → Option ℕ
count_of state t = count_in state.threads t

abbrev pub or_zero : Option ℕ → ℕ
or_zero None = 0
or_zero (Some n) = n

-- the same, 0 for a thread that is not alive
abbrev pub count_or_zero : State → ℕ → ℕ
count_or_zero state t = or_zero (count_of state t)

abbrev pub ids : List Thread → List ℕ
ids threads = map (λ (entry : Thread). entry.id) threads

-- each live thread's count, changed by a function of the thread and its count
abbrev pub with_count : (ℕ → ℕ → ℕ) → Thread → Thread
with_count change entry = record { id = entry.id; suspend_count = change entry.id entry.suspend_count; death_reported = entry.death_reported }

abbrev pub changed : (ℕ → ℕ → ℕ) → List Thread → List Thread
changed change threads = map (with_count change) threads

abbrev pub with_counts : (ℕ → ℕ → ℕ) → State → State
with_counts change state = record state { threads = changed change state.threads }

-- of all threads; of one
abbrev pub raised : ℕ → ℕ → ℕ
raised t n = n + 1

-- a positive count falls by one, and zero stays
abbrev pub lowered : ℕ → ℕ → ℕ
lowered t n = n - 1

abbrev pub cleared : ℕ → ℕ → ℕ
cleared t n = 0

abbrev pub only : ℕ → (ℕ → ℕ → ℕ) → ℕ → ℕ → ℕ
only thread change t n = if thread == t then change t n else n

-- a live thread stands at the limit
abbrev pub at_limit : ℕ → State → Bool
at_limit limit state = list_any (λ (entry : Thread). entry.suspend_count == limit) state.threads

-- a new thread, which is not suspended; a thread that ended; a thread whose death was reported
abbrev pub with_thread : ℕ → State → State
with_thread t state = record state { threads = state.threads ++ record { id = t; suspend_count = 0; death_reported = false } ∷ [] }

abbrev pub is_other : ℕ → Thread → Bool
is_other t entry = if entry.id == t then false else true

abbrev pub without_thread : ℕ → State → State
without_thread t state = record state { threads = filter (is_other t) state.threads }

abbrev pub marked : ℕ → Thread → Thread
marked t entry = if entry.id == t then record entry { death_reported = true } else entry

abbrev pub with_mark : ℕ → State → State
with_mark t state = record state { threads = map (marked t) state.threads }

abbrev pub is_marked_by : Option Thread → Bool
is_marked_by None = false
is_marked_by (Some entry) = entry.death_reported

abbrev pub is_marked : State → ℕ → Bool
is_marked state t = is_marked_by (thread_in state.threads t)

-- ---- threads that an event stopped

-- A thread is suspended by an event from the event of its own whose policy suspended it until its count is 0 again. Where policy ALL suspends
-- others, too, no event stopped these.
abbrev pub is_above_zero : Option ℕ → Bool
is_above_zero None = false
is_above_zero (Some n) = not (n == 0)

-- those of them that are still suspended
abbrev pub still_stopped : List Thread → List ℕ → List ℕ
still_stopped threads stopped = filter (λ (t : ℕ). is_above_zero (count_in threads t)) stopped

abbrev pub restopped : State → State
restopped state = record state { stopped = still_stopped state.threads state.stopped }

-- ---- sessions

-- The end of a session, by Dispose or by a loss: every suspend count is 0, there are no requests, no event stopped anybody, and events are not held. Who lives,
-- whose death was reported, and the next ids stay.
abbrev pub reset : State → State
reset state = record state { threads = changed cleared state.threads; requests = []; held = false; stopped = [] }

-- the machine died: no threads and no requests
abbrev pub dead : State → State
dead state = record state { threads = []; requests = []; alive = false }

-- packet ids go round after 32 bits
abbrev pub next_packet_id : ℕ → ℕ
next_packet_id id = (id + 1) % 2 ^ 32

-- a composite takes a packet id
abbrev pub with_packet : State → State
with_packet state = record state { next_packet = next_packet_id state.next_packet }

-- ---- a debuggee before its first session

abbrev pub running : List ℕ → List Thread
running threads = map (λ (t : ℕ). record { id = t; suspend_count = 0; death_reported = false }) threads

abbrev pub new_state : List ℕ → State
new_state threads = record {
  threads = running threads;
  requests = [];
  held = false;
  handshaken = false;
  alive = true;
  next_request = 1;
  next_packet = 1;
  stopped = [];
}
