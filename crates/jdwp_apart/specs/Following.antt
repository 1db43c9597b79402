-- What a debugger follows of a session with a target whose replies and composites come in any order among one another: its watch, and which
-- requests were just made (JDWP specification, "Protocol Details": EventRequest.Set, Event.Composite, and the commands that invoke methods).
use Rattle.std.specs.Prelude.{ℕ, ℤ, ◌+◌, ◌-◌, ◌%◌, ◌==◌, max, nat_lt, fold, drop, slice_get, Bool, true, false, List, [], ◌∷◌, ◌++◌, length, Option, Some, None, Result, Ok, if◌then◌else◌}
use Rattle.std.specs.Ordering.{int_eq}
use Rattle.jdwp_wire.specs.declared.data_fault.DataFault.{DataFault}
use Rattle.jdwp_wire.specs.Numbers.{number_at}
use Rattle.jdwp_wire.specs.Widths.{Widths}
use Rattle.jdwp_layout.specs.CommandNumbers.{is_command, OBJECT_INVOKE}
use Rattle.jdwp_layout.specs.Meanings.{ScalarMeaning, Byte, Int, One}
use Rattle.jdwp_layout.specs.declared.answer.Answer.{Answer}
use Rattle.jdwp_layout.specs.declared.answer.Answer.TheVariants.{Data}
use Rattle.jdwp_event.specs.Composites.{CompositeMeaning}
use Rattle.jdwp_action.specs.Actions
use Rattle.jdwp_action.specs.Actions.{Command, Carried, Action, action_of}
use Rattle.jdwp_apart.specs.Messages.{Invocation, ByThread, ByAll, is_invocation, may_ask}
use Rattle.jdwp_apart.specs.Watch.{Watch, asks, invokes, returns_from, reads_reply, reads_composite, start}

-- Its watch; and the requests that were made since a composite was read last, each with the ticket of its EventRequest.Set, the newest last. A
-- target that sends composites one by one sent the last one before each event of those behind it: so requests that were made before it was read
-- tell nothing more of these.
pub record Following : Type 0 where
  pub watch : Watch
  pub made : List (ℤ × ℕ)

-- As a session begins no thread is known. The target sends each composite before the next event takes effect.
abbrev pub begun : Following
begun = record { watch = start true (λ t. false); made = [] }

-- ---- invocations

-- The option INVOKE_SINGLE_THREADED is the lowest bit of the options, an int behind all else.
abbrev pub is_odd : Option ℕ → Bool
is_odd None = false
is_odd (Some byte) = byte % 2 == 1

abbrev pub is_single : List ℕ → Bool
is_single bytes = is_odd (slice_get bytes (length bytes - 1))

abbrev pub by_thread : Bool → Result (ℕ × List ℕ) DataFault → Invocation
by_thread true (Ok x) = ByThread x.0
by_thread single found = ByAll

-- The thread stands behind the id of an object, or of a reference type.
abbrev pub before_thread : Widths → Command → ℕ
before_thread w c = if is_command OBJECT_INVOKE c.set c.number then w.object else w.reference

abbrev pub invocation_by : ℕ → ℕ → Carried → Invocation
invocation_by front width (Actions.Raw bytes) = by_thread (is_single bytes) (number_at width (length bytes) (drop front bytes))
invocation_by front width (Actions.Content content) = ByAll

-- which threads run while the method does that a command invokes, if it is such a command
abbrev pub invocation_in : Widths → Command → Option Invocation
invocation_in w c = if is_invocation c then Some (invocation_by (before_thread w c) w.object c.carried) else None

-- ---- requests that were made

-- the id of the request that a reply to EventRequest.Set tells
abbrev pub made_by : Action → Answer → Option ℤ
made_by (Actions.SetRequest kind policy entries) (Data (One (Int id) ∷ [])) = Some id
made_by action answer = None

-- how many are known; where more are made, those before are forgotten
abbrev pub MADE_MOST : ℕ
MADE_MOST = 16

abbrev pub with_made : Option ℤ → ℕ → List (ℤ × ℕ) → List (ℤ × ℕ)
with_made None ticket made = made
with_made (Some id) ticket made = if nat_lt (length made) MADE_MOST then made ++ (id, ticket) ∷ [] else (id, ticket) ∷ []

-- the ticket of the Set that made a request, 0 where none is known
abbrev pub ticket_by : ℤ → ℕ → ℤ × ℕ → ℕ
ticket_by id ticket m = if int_eq m.0 id then max ticket m.1 else ticket

abbrev pub ticket_of : List (ℤ × ℕ) → ℤ → ℕ
ticket_of made id = fold (ticket_by id) 0 made

-- that of the request that an event reports
abbrev pub event_ticket : List (ℤ × ℕ) → List ScalarMeaning → ℕ
event_ticket made (Byte kind ∷ Int id ∷ details) = ticket_of made id
event_ticket made event = 0

-- How many commands were surely carried out before the events of a composite: those up to the Set of each of them, so the greatest.
abbrev pub since : List (ℤ × ℕ) → CompositeMeaning → ℕ
since made c = fold (λ (n : ℕ) (event : List ScalarMeaning). max n (event_ticket made event)) 0 c.events

-- ---- what is put and read

-- A command is put. Nobody can be told from a command on that may do more to threads than is spoken of here, as Dispose.
abbrev pub put_by : Option Invocation → Bool → Command → Following → Option Following
put_by (Some i) may c f = Some (record f { watch = invokes f.watch i })
put_by None true c f = Some (record f { watch = asks f.watch c })
put_by None false c f = None

abbrev pub put_to : Widths → Command → Option Following → Option Following
put_to w c None = None
put_to w c (Some f) = put_by (invocation_in w c) (may_ask c) c f

-- The reply to a command is read. Nobody can be told from one on that is not to the command, invocations apart, that waits longest.
abbrev pub answered_by : Option Invocation → Bool → Command → Answer → Following → Option Following
answered_by (Some i) is_next c answer f = Some (record f { watch = returns_from f.watch i })
answered_by None true c answer f =
    Some (record {
      watch = reads_reply f.watch (record { command = c; answer = answer });
      made = with_made (made_by (action_of c) answer) (f.watch.answered + 1) f.made;
    })
answered_by None false c answer f = None

abbrev pub answered_to : Widths → Bool → Command → Answer → Option Following → Option Following
answered_to w is_next c answer None = None
answered_to w is_next c answer (Some f) = answered_by (invocation_in w c) is_next c answer f

-- A composite is read.
abbrev pub reported : CompositeMeaning → Following → Following
reported c f = record { watch = reads_composite f.watch (record { meaning = c; since = since f.made c }); made = [] }

abbrev pub reported_to : Option Following → CompositeMeaning → Option Following
reported_to None c = None
reported_to (Some f) c = Some (reported c f)
