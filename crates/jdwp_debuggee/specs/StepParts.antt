-- Parts of a step, as the code makes them one after the other.
use Rattle.std.specs.Prelude.{◌≡◌, ◌<◌, ◌+◌, ◌^◌, ℕ, Bool, true, false, ◌&&◌, ◌||◌, not, nat_lt, List, [], ◌∷◌, ◌++◌, length, Option, Some, None, IfSome, ⊤, if◌then◌else◌, vec_capacity, vec_len}
use Rattle.std.specs.Global.{Vec}
use Rattle.std.specs.Option.{option_map}
use Rattle.jdwp_wire.specs.Widths.{Widths}
use Rattle.jdwp_value.specs.declared.id.ObjectId.{ObjectId}
use Rattle.jdwp_event.specs.Composites.{CompositeMeaning}
use Rattle.jdwp_event.specs.Requests.{Request}
use Rattle.jdwp_machine.specs.Meanings.{Meaning}
use Rattle.jdwp_debuggee.specs.Debuggees.{Debuggee, at_moment, visiting}
use Rattle.jdwp_debuggee.specs.Entries.{LiveThreads}
use Rattle.jdwp_debuggee.specs.Sending.{FitsPacket}
use Rattle.jdwp_debuggee.specs.Settings.{Settings}
use Rattle.jdwp_debuggee.specs.State.{Thread, State, changed, count_of, at_limit, next_packet_id}
use Rattle.jdwp_debuggee.specs.Steps.{is_zero, starts_one, may_step, occurs, raised_by, start_policy, stops}
use Rattle.jdwp_debuggee.specs.Visits.{visits_stepped}
use Rattle.jdwp_debuggee.specs.declared.steps.StepDone.{StepDone}

abbrev pub policy_at_start : Bool → ℕ
policy_at_start = start_policy

abbrev pub number_of : Option ObjectId → Option ℕ
number_of thread = option_map (λ (id : ObjectId). id.0) thread

-- A thread may step but for one thread too many that would start: nothing else asks the machine. A thread whose death was reported
-- starts nobody, so it may step wherever it is ready.
abbrev pub is_ready : Settings → State → ℕ → Bool
is_ready settings state t =
    state.handshaken && (state.alive && (not state.held && (is_zero (count_of state t) && not (at_limit settings.count_limit state))))

-- No thread may step, whichever it is: before the first handshake, where the machine is dead, where events are held, where each live thread is
-- suspended, and where one stands at the count limit.
abbrev pub is_still : Settings → State → Bool
is_still settings state =
    not state.handshaken || (not state.alive || (state.held || (not (at_limit 0 state) || at_limit settings.count_limit state)))

-- one thread more than there may be would start
abbrev pub is_full_by : Option ℕ → Settings → State → Bool
is_full_by started settings state = starts_one started && not (nat_lt (length state.threads) settings.limits.live)

-- with the last thread, all requests go
abbrev pub unless_last : Bool → List Request → List Request
unless_last last requests = if last then [] else requests

-- there is room for a thread that starts, if one does
abbrev pub HasRoom : Option ℕ → LiveThreads → Type 0
HasRoom None threads = ⊤
HasRoom (Some t) threads = length threads.list < threads.capacity

-- no thread too many for the counts, if one starts
abbrev pub AreFew : Option ℕ → List Thread → Type 0
AreFew None threads = ⊤
AreFew (Some t) threads = length threads + 1 < 2 ^ 32

-- the threads, and a new one
abbrev pub with_new : Option ℕ → List Thread → List Thread
with_new None threads = threads
with_new (Some t) threads = threads ++ record { id = t; suspend_count = 0; death_reported = false } ∷ []

-- the threads, suspended by what is sent
abbrev pub raised_for : Option CompositeMeaning → ℕ → List Thread → List Thread
raised_for None event_thread threads = threads
raised_for (Some c) event_thread threads = changed (raised_by c.policy event_thread) threads

-- there is room for one more that an event stopped, if anything is sent
abbrev pub HasStopRoom : Option CompositeMeaning → Vec ObjectId → Type 0
HasStopRoom None stopped = ⊤
HasStopRoom (Some c) stopped = vec_len stopped < vec_capacity stopped

-- the threads that an event stopped, behind what is sent
abbrev pub stopped_for : Option CompositeMeaning → ℕ → List ℕ → List ℕ
stopped_for None event_thread stopped = stopped
stopped_for (Some c) event_thread stopped = if stops c.policy then stopped ++ event_thread ∷ [] else stopped

-- the id of the next packet, behind what is sent
abbrev pub packet_after : Option CompositeMeaning → ℕ → ℕ
packet_after None id = id
packet_after (Some c) id = next_packet_id id

-- a step was made as the definitions say
pub record Steps {S : Type 0} (m : Meaning S) (t : ℕ) (old new : Debuggee S) (done : StepDone) : Type 0 where
  pub may : may_step m old.settings old.moment t ≡ true
  pub after : new ≡ visiting (visits_stepped m old.moment t old.visits) (at_moment (occurs m old.moment t).after old)
  pub sends : done.sends ≡ (occurs m old.moment t).sends
  pub ends : done.ends ≡ (occurs m old.moment t).ends
  pub dies : done.dies ≡ (occurs m old.moment t).dies

-- what a step sends, if anything, fits a packet
abbrev pub SendFits : Widths → ℕ → Option StepDone → Type 0
SendFits w limit None = ⊤
SendFits w limit (Some done) = IfSome done.sends (FitsPacket w limit)

-- a step, or none, where the thread may not make one
abbrev pub StepsOrNot : {S : Type 0} → Meaning S → ℕ → Debuggee S → Debuggee S → Option StepDone → Type 0
StepsOrNot m t old new None = (may_step m old.settings old.moment t ≡ false) × (new ≡ old)
StepsOrNot m t old new (Some done) = Steps m t old new done
