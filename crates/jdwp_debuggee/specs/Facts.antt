-- What holds of the debuggee's moments, whatever the machine: what commands and steps do to suspend counts and to requests.
-- These are facts, which follow from `effect` and `occurs`: the law `moves_counts_and_requests` says that they hold for every machine, and
-- all that is said of a session rests on them.
use Rattle.std.specs.Prelude.{◌≡◌, ◌≤◌, ◌<◌, ℕ, pos, Bool, true, false, ◌||◌, ◌&&◌, not, List, [], ◌∷◌, ◌++◌, Option, Some, None, is_some, ⊤}
use Rattle.std.specs.List.{filter}
use Rattle.std.specs.Option.{option_map}
use Rattle.std.specs.Prelude.{ℤ}
use Rattle.jdwp_wire.specs.declared.error_code.ErrorCode.{ErrorCode}
use Rattle.jdwp_wire.specs.ErrorCodes.{INVALID_THREAD}
use Rattle.jdwp_layout.specs.declared.answer.Answer.{Answer}
use Rattle.jdwp_layout.specs.declared.answer.Answer.TheVariants.{Data, Error}
use Rattle.jdwp_layout.specs.Meanings.{Int, One}
use Rattle.jdwp_event.specs.Modifiers.{modifiers_of}
use Rattle.jdwp_event.specs.RequestLists.{is_left, is_left_by_all}
use Rattle.jdwp_event.specs.Requests.{AskedRequest, all_asked}
use Rattle.jdwp_event.specs.Composites.{CompositeMeaning}
use Rattle.jdwp_event.specs.Told.{composite_thread, is_vm_death}
use Rattle.jdwp_machine.specs.Meanings.{Meaning, has}
use Rattle.jdwp_action.specs.Actions.{about, is_dispose, is_exit, Command, Action, action_of}
use Rattle.jdwp_debuggee.specs.Settings.{Settings}
use Rattle.jdwp_debuggee.specs.State.{State, Moment, count_of, count_or_zero, raised, lowered, cleared, only}
use Rattle.jdwp_action.specs.Actions
use Rattle.jdwp_debuggee.specs.Answers.{all_threads}
use Rattle.jdwp_debuggee.specs.Effects.{Effect, effect}
use Rattle.jdwp_debuggee.specs.Steps.{Step, occurs, may_step, raised_by}

-- ---- moments

-- each request's id is below a number
abbrev pub AreBelow : ℕ → List AskedRequest → Type 0
AreBelow n [] = ⊤
AreBelow n (r ∷ rs) = (r.id < n) × AreBelow n rs

-- Who lives in the state lives in the machine, and the other way round; no count is above the limit; and request ids are below the next.
pub record IsSound {S : Type 0} (m : Meaning S) (settings : Settings) (now : Moment S) : Type 0 where
  pub state : m.is_state now.machine
  pub lives : (t : ℕ) → has (m.live now.machine) t ≡ is_some (count_of now.state t)
  pub at_most : (t n : ℕ) → count_of now.state t ≡ Some n → n ≤ settings.count_limit
  pub below : AreBelow now.state.next_request (all_asked now.state.requests)

-- Nothing was told between two moments: each thread's count is the same, or 0 where it is not alive; nobody who ever lived comes
-- back; and the requests are the same.
pub record Quiet {S : Type 0} (m : Meaning S) (a b : Moment S) : Type 0 where
  pub same_count : (t : ℕ) → count_or_zero b.state t ≡ count_or_zero a.state t
  pub no_birth : (t n : ℕ) → m.ever a.machine t ≡ true → count_of b.state t ≡ Some n → count_of a.state t ≡ Some n
  pub ever : (t : ℕ) → m.ever a.machine t ≡ true → m.ever b.machine t ≡ true
  pub same_requests : all_asked b.state.requests ≡ all_asked a.state.requests
  pub alive : b.state.alive ≡ true → a.state.alive ≡ true

-- ---- commands

abbrev pub is_data : Answer → Bool
is_data (Data content) = true
is_data (Error e) = false

-- what a command that was answered OK does to a count
abbrev pub moved_by : Action → ℕ → Option ℕ → Option ℕ
moved_by Actions.Suspend t count = option_map (raised t) count
moved_by Actions.Resume t count = option_map (lowered t) count
moved_by Actions.Dispose t count = option_map (cleared t) count
moved_by Actions.Exit t count = None
moved_by (Actions.SuspendThread u) t count = option_map (only u raised t) count
moved_by (Actions.ResumeThread u) t count = option_map (only u lowered t) count
moved_by action t count = count

-- a command that is refused moves nothing
abbrev pub moved : Action → Answer → ℕ → Option ℕ → Option ℕ
moved action (Data content) t count = moved_by action t count
moved action (Error e) t count = count

-- what it does to the requests
abbrev pub is_not_asked : ℕ → ℤ → AskedRequest → Bool
is_not_asked byte id r = is_left byte id r.kind (pos r.id)

abbrev pub is_no_asked_breakpoint : AskedRequest → Bool
is_no_asked_breakpoint r = is_left_by_all r.kind

abbrev pub requests_by : Action → ℕ → List AskedRequest → List AskedRequest
requests_by (Actions.SetRequest byte policy entries) id requests =
    requests ++ record { id = id; kind = byte; policy = policy; modifiers = modifiers_of entries } ∷ []
requests_by (Actions.ClearRequest byte id) next requests = filter (is_not_asked byte id) requests
requests_by Actions.ClearBreakpoints next requests = filter is_no_asked_breakpoint requests
requests_by Actions.Dispose next requests = []
requests_by Actions.Exit next requests = []
requests_by action next requests = requests

abbrev pub requests_moved : Action → Answer → ℕ → List AskedRequest → List AskedRequest
requests_moved action (Data content) next requests = requests_by action next requests
requests_moved action (Error e) next requests = requests

-- what an OK reply says, where it says something of the state
abbrev pub Says : Action → State → Answer → Type 0
Says (Actions.SuspendCount t) state (Data content) = (n : ℕ) × (count_of state t ≡ Some n) × (content ≡ One (Int (pos n)) ∷ [])
Says (Actions.SetRequest byte policy entries) state (Data content) = content ≡ One (Int (pos state.next_request)) ∷ []
Says Actions.AllThreads state (Data content) = Data content ≡ all_threads state
Says action state answer = ⊤

-- INVALID_THREAD comes where the thread is not alive, and data only where it is
abbrev pub IsInvalid : ErrorCode → Type 0
IsInvalid e = e.0 ≡ INVALID_THREAD.0

abbrev pub OfThread : Answer → Option ℕ → Type 0
OfThread (Data content) count = is_some count ≡ true
OfThread (Error e) count = IsInvalid e → count ≡ None

-- What a command does, by its action and its answer. A machine's widths stay.
pub record Does {S : Type 0} (m : Meaning S) (settings : Settings) (now : Moment S) (a : Action) (e : Effect S) : Type 0 where
  pub sound : IsSound m settings e.after
  pub ever : (t : ℕ) → m.ever now.machine t ≡ true → m.ever e.after.machine t ≡ true
  pub sizes : m.sizes e.after.machine ≡ m.sizes now.machine
  pub counts : (t : ℕ) → count_of e.after.state t ≡ moved a e.answer t (count_of now.state t)
  pub requests : all_asked e.after.state.requests ≡ requests_moved a e.answer now.state.next_request (all_asked now.state.requests)
  pub says : Says a now.state e.answer
  pub of_thread : (t : ℕ) → about a ≡ Some t → OfThread e.answer (count_of now.state t)
  pub handshaken : e.after.state.handshaken ≡ now.state.handshaken
  pub alive : e.after.state.alive ≡ (now.state.alive && not e.dies)
  pub dies : e.dies ≡ (is_exit a && is_data e.answer)
  pub closes : e.closes ≡ ((is_exit a || is_dispose a) && is_data e.answer)

-- ---- steps

-- A composite that was told: nothing was told before it, then its thread, which had count 0, was suspended by its policy, or all were.
pub record Tells {S : Type 0} (m : Meaning S) (now : Moment S) (c : CompositeMeaning) (after : Moment S) : Type 0 where
  pub thread : ℕ
  pub mid : Moment S
  pub quiet : Quiet m now mid
  pub of_thread : composite_thread c ≡ Some thread
  pub is_no_death : is_vm_death c ≡ false
  pub ran : count_of mid.state thread ≡ Some 0
  pub counts : (t : ℕ) → count_of after.state t ≡ option_map (raised_by c.policy thread t) (count_of mid.state t)
  pub same_requests : all_asked after.state.requests ≡ all_asked mid.state.requests
  pub ever : (t : ℕ) → m.ever mid.machine t ≡ true → m.ever after.machine t ≡ true
  pub alive : after.state.alive ≡ mid.state.alive

-- The last thread ended: nobody was suspended, nobody lives, and there are no requests.
pub record Died {S : Type 0} (m : Meaning S) (now after : Moment S) : Type 0 where
  pub nobody_suspended : (t : ℕ) → count_or_zero now.state t ≡ 0
  pub nobody_lives : (t : ℕ) → count_of after.state t ≡ None
  pub no_requests : after.state.requests ≡ []
  pub alive : after.state.alive ≡ false

-- what a step tells: nothing, or a composite
abbrev pub Told : {S : Type 0} → Meaning S → Moment S → Moment S → Bool → Option CompositeMeaning → Type 0
Told m now after true None = Died m now after
Told m now after false None = Quiet m now after
Told m now after dies (Some c) = (dies ≡ false) × Tells m now c after

-- What a step does. A machine's widths stay.
pub record Happens {S : Type 0} (m : Meaning S) (settings : Settings) (now : Moment S) (o : Step S) : Type 0 where
  pub sound : IsSound m settings o.after
  pub ever : (t : ℕ) → m.ever now.machine t ≡ true → m.ever o.after.machine t ≡ true
  pub sizes : m.sizes o.after.machine ≡ m.sizes now.machine
  pub told : Told m now o.after o.dies o.sends
  pub silent : now.state.requests ≡ [] → o.sends ≡ None
  pub handshaken : o.after.state.handshaken ≡ now.state.handshaken
  pub alive : o.dies ≡ false → o.after.state.alive ≡ now.state.alive

-- ---- all of it

pub record Facts {S : Type 0} (m : Meaning S) (settings : Settings) : Type 0 where
  pub does : (now : Moment S) (c : Command) → IsSound m settings now → Does m settings now (action_of c) (effect m settings now c)
  pub happens : (now : Moment S) (t : ℕ) → IsSound m settings now → may_step m settings now t ≡ true → Happens m settings now (occurs m now t)
