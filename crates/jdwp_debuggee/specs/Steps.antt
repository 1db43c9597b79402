-- What a step of a thread does (JDWP specification, "Protocol Details": the command Composite of the set Event, and suspend policies).
use Rattle.std.specs.Prelude.{ℕ, ◌+◌, ◌==◌, nat_lt, Bool, true, false, ◌&&◌, ◌||◌, not, List, [], ◌∷◌, ◌++◌, Option, Some, None, if◌then◌else◌, length}
use Rattle.jdwp_event.specs.Composites.{CompositeMeaning, POLICY_NONE, POLICY_EVENT_THREAD, POLICY_ALL, gathered, vm_start}
use Rattle.jdwp_event.specs.Filters.{all_counted}
use Rattle.jdwp_event.specs.Occurrences.{HappeningMeaning, started, runs_out}
use Rattle.jdwp_machine.specs.Meanings.{Meaning}
use Rattle.jdwp_debuggee.specs.Settings.{Settings}
use Rattle.jdwp_debuggee.specs.State.{Thread, State, Moment, count_of, with_counts, at_limit, with_thread, without_thread, with_mark, is_marked, with_packet, dead}
use Rattle.jdwp_debuggee.specs.Answers.{least_thread}

-- ---- when a thread may step

abbrev pub is_zero : Option ℕ → Bool
is_zero None = false
is_zero (Some n) = n == 0

abbrev pub starts_one : Option ℕ → Bool
starts_one None = false
starts_one (Some t) = true

-- the thread that a step would start: none, where the thread's death was reported, for then it only ends
abbrev pub starts_by : Bool → HappeningMeaning → Option ℕ
starts_by true h = None
starts_by false h = started h

abbrev pub starts : {S : Type 0} → Meaning S → Moment S → ℕ → Option ℕ
starts m now t = starts_by (is_marked now.state t) (m.next now.machine t)

-- one thread more than there may be would start
abbrev pub is_full : {S : Type 0} → Meaning S → Settings → Moment S → ℕ → Bool
is_full m settings now t = starts_one (starts m now t) && not (nat_lt (length now.state.threads) settings.limits.live)

-- The first handshake was completed, the machine is alive, events are not held, the thread is alive and not suspended, no live
-- thread stands at the count limit, and no thread too many would start.
abbrev pub may_step : {S : Type 0} → Meaning S → Settings → Moment S → ℕ → Bool
may_step m settings now t =
    now.state.handshaken && (now.state.alive && (not now.state.held && (is_zero (count_of now.state t) &&
    (not (at_limit settings.count_limit now.state) && not (is_full m settings now t)))))

-- ---- what a policy suspends

-- the change of counts by a policy, where the event is of this thread
abbrev pub raised_by : ℕ → ℕ → ℕ → ℕ → ℕ
raised_by policy event_thread t n =
    if policy == POLICY_ALL then n + 1 else
    (if policy == POLICY_EVENT_THREAD then (if event_thread == t then n + 1 else n) else n)

abbrev pub suspended_by : CompositeMeaning → ℕ → State → State
suspended_by c event_thread state = with_counts (raised_by c.policy event_thread) state

-- whether a policy suspends the event's thread
abbrev pub stops : ℕ → Bool
stops policy = (policy == POLICY_ALL) || (policy == POLICY_EVENT_THREAD)

-- the event's thread is suspended by it, if the policy suspends it
abbrev pub stopped_by : CompositeMeaning → ℕ → State → State
stopped_by c event_thread state = record state { stopped = if stops c.policy then state.stopped ++ event_thread ∷ [] else state.stopped }

-- ---- a step

-- The moment after a step, what is sent, whether the thread ended, and whether it was the last, so that the machine died.
pub record Step (S : Type 0) : Type 0 where
  pub after : Moment S
  pub sends : Option CompositeMeaning
  pub ends : Bool
  pub dies : Bool

-- the state after the requests have seen a happening
abbrev pub with_happening : HappeningMeaning → State → State
with_happening h state = record state { requests = all_counted h state.requests }

-- a thread ends, and with the last one the machine dies
abbrev pub ended_by : List Thread → State → State × Bool
ended_by [] state = (dead state, true)
ended_by (entry ∷ entries) state = (state, false)

abbrev pub thread_ended : ℕ → State → State × Bool
thread_ended t state = ended_by (without_thread t state).threads (without_thread t state)

abbrev pub ends : {S : Type 0} → Meaning S → S → ℕ → State × Bool → Step S
ends m s t (state, dies) = record { after = record { state = state; machine = m.ended s t }; sends = None; ends = true; dies = dies }

-- a thread has run out: its death is reported where a request passes, and it lives until its next step; else it ends
abbrev pub death_by : {S : Type 0} → Meaning S → S → ℕ → HappeningMeaning → State → Option CompositeMeaning → Step S
death_by m s t h state None = ends m s t (thread_ended t (with_happening h state))
death_by m s t h state (Some c) = record {
  after = record { state = with_packet (with_mark t (stopped_by c h.thread (suspended_by c h.thread (with_happening h state)))); machine = s };
  sends = Some c;
  ends = false;
  dies = false;
}

-- a new thread lives, not suspended
abbrev pub with_started : Option ℕ → State → State
with_started None state = state
with_started (Some t) state = with_thread t state

-- any other step
abbrev pub report_by : {S : Type 0} → Meaning S → S → ℕ → HappeningMeaning → State → Option CompositeMeaning → Step S
report_by m s t h state None =
    record { after = record { state = with_started (started h) (with_happening h state); machine = m.stepped s t }; sends = None; ends = false; dies = false }
report_by m s t h state (Some c) = record {
  after = record { state = with_packet (stopped_by c h.thread (suspended_by c h.thread (with_started (started h) (with_happening h state)))); machine = m.stepped s t };
  sends = Some c;
  ends = false;
  dies = false;
}

abbrev pub happens : {S : Type 0} → Meaning S → Moment S → ℕ → HappeningMeaning → Bool → Step S
happens m now t h true = death_by m now.machine t h now.state (gathered h now.state.requests)
happens m now t h false = report_by m now.machine t h now.state (gathered h now.state.requests)

-- a thread whose death was reported ends
abbrev pub occurs_by : {S : Type 0} → Meaning S → Moment S → ℕ → Bool → Step S
occurs_by m now t true = ends m now.machine t (thread_ended t now.state)
occurs_by m now t false = happens m now t (m.next now.machine t) (runs_out (m.next now.machine t))

-- What a step of a thread that may make one does.
abbrev pub occurs : {S : Type 0} → Meaning S → Moment S → ℕ → Step S
occurs m now t = occurs_by m now t (is_marked now.state t)

-- ---- the first handshake

abbrev pub start_policy : Bool → ℕ
start_policy true = POLICY_ALL
start_policy false = POLICY_NONE

abbrev pub start_event : Settings → State → CompositeMeaning
start_event settings state = vm_start (start_policy settings.start_all) (least_thread state)

-- The first handshake of the target's life: VM_START is sent, and its policy ALL suspends every thread. It comes of no step, and stops nobody.
abbrev pub handshaken : Settings → State → State
handshaken settings state =
    with_packet (suspended_by (start_event settings state) (least_thread state) (record state { handshaken = true }))
