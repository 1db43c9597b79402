-- What each event does to a link, and what is told of it (JDWP specification, "JDWP Handshake", "JDWP Packets", and "Protocol Details":
-- VirtualMachine.Dispose and Event.Composite).
use Rattle.std.specs.Prelude.{ℕ, ◌+◌, ◌-◌, min, nat_lt, Bool, true, false, ◌||◌, ◌&&◌, not, List, [], ◌∷◌, ◌++◌, length, Option, Some, None, is_none, is_some, if◌then◌else◌}
use Rattle.jdwp_layout.specs.declared.answer.Answer.{Answer}
use Rattle.jdwp_end.specs.declared.phase.Phase.{Phase}
use Rattle.jdwp_end.specs.declared.phase.Phase.TheVariants.{Closed, AwaitingHandshake, Established}
use Rattle.jdwp_end.specs.Ends.{is_established_phase}
use Rattle.jdwp_event.specs.Composites.{CompositeMeaning, vm_death}
use Rattle.jdwp_event.specs.Told.{is_vm_death}
use Rattle.jdwp_machine.specs.Meanings.{Meaning}
use Rattle.jdwp_debuggee.specs.Settings.{Settings}
use Rattle.jdwp_debuggee.specs.State.{Moment, reset, with_packet}
use Rattle.jdwp_action.specs.Actions.{Command}
use Rattle.jdwp_debuggee.specs.Effects.{Effect, effect}
use Rattle.jdwp_debuggee.specs.Steps
use Rattle.jdwp_debuggee.specs.Steps.{occurs, may_step, start_event, handshaken}
use Rattle.jdwp_debuggee.specs.Deferring.{is_deferred, released_at}
use Rattle.jdwp_mirror.specs.Messages.{LAST_TICKET, Ticket, same_ticket, Call, Greets, Asks, Message, Handshake, Reply, Report, id_sizes}
use Rattle.jdwp_mirror.specs.Mirror.{ends}
use Rattle.jdwp_mirror.specs.Faults.{Fault, Reader, fault_of}
use Rattle.jdwp_model.specs.Events
use Rattle.jdwp_model.specs.Events.{LinkEvent, AskRefusal, Outcome}
use Rattle.jdwp_model.specs.World.{Measure, is_closed, Packet, World, way_to_target, way_to_debugger}
use Rattle.jdwp_model.specs.Seen.{mirror_count}

-- ---- a new session

-- nothing is under way but the debugger's handshake
abbrev pub attached : {S : Type 0} → World S → World S
attached w = record {
  now = w.now;
  target = AwaitingHandshake;
  lost = false;
  to_target = Greets ∷ [];
  to_debugger = [];
  at_target = 0;
  at_debugger = 0;
  deferred = [];
  deferring = w.deferring;
  debugger = AwaitingHandshake;
  ready = false;
  parked = [];
  read = [];
  asked = w.asked;
  pending = w.pending;
}

-- both ends are closed, so that no ticket waits, and the machine lives
abbrev pub may_attach : {S : Type 0} → World S → Bool
may_attach w = is_closed w.target && (is_closed w.debugger && w.now.state.alive)

abbrev pub attaches : {S : Type 0} → World S → World S
attaches w = if may_attach w then attached w else w

-- ---- commands are asked

abbrev pub is_busy : {S : Type 0} → Settings → Measure → World S → Bool
is_busy settings measure w =
    not (nat_lt (length w.pending) settings.limits.pending) || (not (nat_lt (way_to_target measure w) settings.limits.packet) || not (nat_lt w.asked LAST_TICKET))

abbrev pub ask_refusal : {S : Type 0} → Settings → Measure → World S → Command → Option AskRefusal
ask_refusal settings measure w c =
    if is_closed w.debugger then Some Events.Closed else
    (if not (is_established_phase w.debugger && w.ready) then Some Events.NotReady else
    (if is_busy settings measure w then Some Events.Busy else measure.unfit c))

abbrev pub asks : {S : Type 0} → World S → Command → World S
asks w c = record w {
  to_target = w.to_target ++ Asks (Some (w.asked + 1)) c ∷ [];
  asked = w.asked + 1;
  pending = w.pending ++ (Some (w.asked + 1), c) ∷ [];
}

abbrev pub ask_by : {S : Type 0} → World S → Command → Option AskRefusal → World S × List Outcome
ask_by w c (Some refusal) = (w, Events.Refused refusal ∷ [])
ask_by w c None = (asks w c, Events.Asked (w.asked + 1) ∷ [])

-- ---- bytes come

-- an end takes as many bytes as a packet may have before it handles them
abbrev pub delivered : Settings → ℕ → ℕ → ℕ → ℕ
delivered settings n way at = at + min n (min way (settings.limits.packet - at))

abbrev pub delivers_to_target : {S : Type 0} → Settings → Measure → World S → ℕ → World S
delivers_to_target settings measure w n = if is_closed w.target then w else record w { at_target = delivered settings n (way_to_target measure w) w.at_target }

abbrev pub delivers_to_debugger : {S : Type 0} → Settings → Measure → World S → ℕ → World S
delivers_to_debugger settings measure w n = if is_closed w.debugger then w else record w { at_debugger = delivered settings n (way_to_debugger measure w) w.at_debugger }

-- ---- the target's end closes

-- It does, and what was deferred is never answered; or it stays as it is.
abbrev pub target_closes : {S : Type 0} → World S → Bool → World S
target_closes w closes = record w { target = if closes then Closed else w.target; deferred = if closes then [] else w.deferred }

abbrev pub target_closed : {S : Type 0} → World S → World S
target_closed w = target_closes w true

-- ---- the target's turn

-- the connection is lost, or what came makes no sense
abbrev pub target_loses : {S : Type 0} → World S → World S
target_loses w = record (target_closed w) { now = record { state = reset w.now.state; machine = w.now.machine }; lost = true }

-- The debugger's handshake is answered; the first time in the target's life VM_START follows.
abbrev pub started : {S : Type 0} → Settings → Moment S → Moment S
started settings now = record { state = handshaken settings now.state; machine = now.machine }

abbrev pub greets_by : {S : Type 0} → Settings → World S → Bool → World S
greets_by settings w true = record w { target = Established; to_debugger = w.to_debugger ++ (Handshake, w.now) ∷ [] }
greets_by settings w false = record w {
  now = started settings w.now;
  target = Established;
  to_debugger = w.to_debugger ++ (Handshake, w.now) ∷ (Report (start_event settings w.now.state), started settings w.now) ∷ [];
}

-- The machine died: VM_DEATH is sent, and the session closes.
abbrev pub after_death : {S : Type 0} → Moment S → Moment S
after_death now = record { state = with_packet now.state; machine = now.machine }

abbrev pub dying : {S : Type 0} → World S → World S
dying w = record (target_closed w) { now = after_death w.now; to_debugger = w.to_debugger ++ (Report vm_death, after_death w.now) ∷ [] }

abbrev pub dies_by : {S : Type 0} → World S → Bool → World S
dies_by w true = dying w
dies_by w false = w

-- A command does what it does, and is answered.
abbrev pub answers : {S : Type 0} → World S → Ticket → Command → Effect S → World S
answers w k c e = record (target_closes w e.closes) {
  now = e.after;
  to_debugger = w.to_debugger ++ (Reply k c e.answer, e.after) ∷ [];
}

-- the machine may die by it
abbrev pub carries_out : {S : Type 0} → Meaning S → Settings → World S → Ticket → Command → World S
carries_out m settings w k c = dies_by (answers w k c (effect m settings w.now c)) (effect m settings w.now c).dies

-- Whether the target defers a command that it takes now.
abbrev pub defers : {S : Type 0} → World S → Command → Bool
defers w c = is_deferred w.deferring c.set (length w.deferred)

-- A command is deferred as it came, or carried out.
abbrev pub defers_or : {S : Type 0} → Meaning S → Settings → World S → Ticket → Command → Bool → World S
defers_or m settings w k c true = record w { deferred = w.deferred ++ (k, c) ∷ [] }
defers_or m settings w k c false = carries_out m settings w k c

abbrev pub target_takes : {S : Type 0} → Measure → World S → Call → List Call → World S
target_takes measure w call rest = record w { to_target = rest; at_target = w.at_target - measure.call call }

abbrev pub target_handles : {S : Type 0} → Meaning S → Settings → Measure → World S → List Call → Phase → Call → World S
target_handles m settings measure w rest AwaitingHandshake Greets = greets_by settings (target_takes measure w Greets rest) w.now.state.handshaken
target_handles m settings measure w rest Established (Asks k c) =
    defers_or m settings (target_takes measure w (Asks k c) rest) k c (defers w c)
target_handles m settings measure w rest phase call = target_loses w

-- the first message, and those behind it, where so many bytes of them make it whole
abbrev pub whole_call : Measure → ℕ → List Call → Option (Call × List Call)
whole_call measure at [] = None
whole_call measure at (call ∷ rest) = if nat_lt at (measure.call call) then None else Some (call, rest)

-- What a turn of the target handles: nothing where the end is closed, or paused because as many of its own bytes as a packet may have are
-- under way, or no whole message came.
abbrev pub target_front : {S : Type 0} → Settings → Measure → World S → Option (Call × List Call)
target_front settings measure w =
    if not (is_closed w.target) && nat_lt (way_to_debugger measure w) settings.limits.packet then whole_call measure w.at_target w.to_target else None

abbrev pub target_turn_at : {S : Type 0} → Meaning S → Settings → Measure → World S → Option (Call × List Call) → World S
target_turn_at m settings measure w None = w
target_turn_at m settings measure w (Some (call, rest)) = target_handles m settings measure w rest w.target call

abbrev pub target_turn : {S : Type 0} → Meaning S → Settings → Measure → World S → World S
target_turn m settings measure w = target_turn_at m settings measure w (target_front settings measure w)

-- ---- a deferred command is answered

-- What a release answers, and what stays deferred: nothing where the end is not in a session, or paused as above, or no command is deferred
-- at this place.
abbrev pub release_front : {S : Type 0} → Settings → Measure → World S → ℕ → Option ((Ticket × Command) × List (Ticket × Command))
release_front settings measure w place =
    if is_established_phase w.target && nat_lt (way_to_debugger measure w) settings.limits.packet then released_at place w.deferred else None

-- The command is carried out by the debuggee as it is now.
abbrev pub releases_at : {S : Type 0} → Meaning S → Settings → World S → Option ((Ticket × Command) × List (Ticket × Command)) → World S
releases_at m settings w None = w
releases_at m settings w (Some ((k, c), rest)) = carries_out m settings (record w { deferred = rest }) k c

abbrev pub releases : {S : Type 0} → Meaning S → Settings → Measure → World S → ℕ → World S
releases m settings measure w place = releases_at m settings w (release_front settings measure w place)

-- ---- the debugger's turn

-- the tickets that will never be answered, in the order asked
abbrev pub lost_tickets : List (Ticket × Command) → List Outcome
lost_tickets [] = []
lost_tickets ((Some k, c) ∷ ps) = Events.Lost k ∷ lost_tickets ps
lost_tickets ((None, c) ∷ ps) = lost_tickets ps

abbrev pub debugger_closed : {S : Type 0} → World S → World S
debugger_closed w = record w { debugger = Closed; ready = false; parked = []; read = []; pending = [] }

abbrev pub debugger_loses : {S : Type 0} → World S → World S × List Outcome
debugger_loses w = (debugger_closed w, lost_tickets w.pending)

-- after what was told, the end closes or it doesn't
abbrev pub closes_by : {S : Type 0} → World S → List Outcome → Bool → World S × List Outcome
closes_by w outcomes true = (debugger_closed w, outcomes ++ lost_tickets w.pending)
closes_by w outcomes false = (w, outcomes)

-- all but the first command under a ticket
abbrev pub without_ticket : Ticket → List (Ticket × Command) → List (Ticket × Command)
without_ticket k [] = []
without_ticket k (p ∷ ps) = if same_ticket p.0 k then ps else p ∷ without_ticket k ps

-- packets enter what was read, in order
abbrev pub entered : {S : Type 0} → List (Packet S) → List (Packet S) → List (Packet S)
entered [] read = read
entered (p ∷ ps) read = entered ps (p ∷ read)

abbrev pub messages_of : {S : Type 0} → List (Packet S) → List Message
messages_of [] = []
messages_of (p ∷ ps) = p.0 ∷ messages_of ps

abbrev pub composites_of : {S : Type 0} → List (Packet S) → List Outcome
composites_of [] = []
composites_of ((Report c, a) ∷ ps) = Events.Seen c ∷ composites_of ps
composites_of (p ∷ ps) = composites_of ps

abbrev pub has_end : {S : Type 0} → List (Packet S) → Bool
has_end [] = false
has_end (p ∷ ps) = ends p.0 || has_end ps

abbrev pub answered : Ticket → Answer → List Outcome
answered None answer = []
answered (Some k) answer = Events.Answered k answer ∷ []

-- The target's handshake: IDSizes is asked.
abbrev pub reads_handshake : {S : Type 0} → World S → Packet S → World S
reads_handshake w p = record w {
  debugger = Established;
  to_target = w.to_target ++ Asks None id_sizes ∷ [];
  read = p ∷ w.read;
  pending = w.pending ++ (None, id_sizes) ∷ [];
}

-- A reply: the first is that to IDSizes, and the composites that waited for it enter before it.
abbrev pub reads_reply : {S : Type 0} → World S → Packet S → Ticket → World S
reads_reply w p k = record w { ready = w.ready || is_none k; parked = []; read = p ∷ entered w.parked w.read; pending = without_ticket k w.pending }

-- A composite waits for the widths of ids, or is read.
abbrev pub reads_composite : {S : Type 0} → World S → Packet S → CompositeMeaning → Bool → World S × List Outcome
reads_composite w p c false = (record w { parked = w.parked ++ p ∷ [] }, [])
reads_composite w p c true = closes_by (record w { read = p ∷ w.read }) (Events.Seen c ∷ []) (is_vm_death c)

abbrev pub reads : {S : Type 0} → World S → Packet S → World S × List Outcome
reads w (Handshake, a) = (reads_handshake w (Handshake, a), [])
reads w (Reply k c x, a) =
    closes_by (reads_reply w (Reply k c x, a) k) (composites_of w.parked ++ answered k x) (ends (Reply k c x) || has_end w.parked)
reads w (Report c, a) = reads_composite w (Report c, a) c w.ready

abbrev pub reader : {S : Type 0} → World S → Reader
reader w = record { greeted = is_established_phase w.debugger; ready = w.ready; parked = messages_of w.parked; pending = w.pending; counts = mirror_count w.read }

-- a packet that is refused closes the end
abbrev pub debugger_handles : {S : Type 0} → World S → Packet S → Option Fault → World S × List Outcome
debugger_handles w p (Some fault) = debugger_loses w
debugger_handles w p None = reads w p

abbrev pub debugger_takes : {S : Type 0} → Measure → World S → Packet S → List (Packet S) → World S
debugger_takes measure w p rest = record w { to_debugger = rest; at_debugger = w.at_debugger - measure.message p.0 }

-- the first packet, and those behind it, where so many bytes of them make it whole
abbrev pub whole_packet : {S : Type 0} → Measure → ℕ → List (Packet S) → Option (Packet S × List (Packet S))
whole_packet measure at [] = None
whole_packet measure at (p ∷ rest) = if nat_lt at (measure.message p.0) then None else Some (p, rest)

-- What a turn of the debugger handles, by the same rule.
abbrev pub debugger_front : {S : Type 0} → Settings → Measure → World S → Option (Packet S × List (Packet S))
debugger_front settings measure w =
    if not (is_closed w.debugger) && nat_lt (way_to_target measure w) settings.limits.packet then whole_packet measure w.at_debugger w.to_debugger else None

abbrev pub debugger_turn_at : {S : Type 0} → Measure → World S → Option (Packet S × List (Packet S)) → World S × List Outcome
debugger_turn_at measure w None = (w, [])
debugger_turn_at measure w (Some (p, rest)) = debugger_handles (debugger_takes measure w p rest) p (fault_of (reader w) p.0)

abbrev pub debugger_turn : {S : Type 0} → Settings → Measure → World S → World S × List Outcome
debugger_turn settings measure w = debugger_turn_at measure w (debugger_front settings measure w)

-- ---- steps

abbrev pub with_report : {S : Type 0} → World S → Moment S → Option CompositeMeaning → World S
with_report w after None = record w { now = after }
with_report w after (Some c) = record w { now = after; to_debugger = w.to_debugger ++ (Report c, after) ∷ [] }

-- where the machine died: VM_DEATH follows in a session, and the end closes
abbrev pub step_ends : {S : Type 0} → World S → Phase → Bool → World S
step_ends w phase false = w
step_ends w Established true = dying w
step_ends w phase true = target_closed w

abbrev pub stepped : {S : Type 0} → World S → Steps.Step S → World S
stepped w o = step_ends (with_report w o.after o.sends) w.target o.dies

-- Whether a thread makes a step: where it may, and the target is not paused. A target that lost the connection is not.
abbrev pub steps_now : {S : Type 0} → Meaning S → Settings → Measure → World S → ℕ → Bool
steps_now m settings measure w t = may_step m settings w.now t && (w.lost || nat_lt (way_to_debugger measure w) settings.limits.packet)

abbrev pub steps : {S : Type 0} → Meaning S → Settings → Measure → World S → ℕ → World S
steps m settings measure w t = if steps_now m settings measure w t then stepped w (occurs m w.now t) else w

-- ---- all events

-- What an event does to a link, and what is told of it.
abbrev pub next : {S : Type 0} → Meaning S → Settings → Measure → World S → LinkEvent → World S × List Outcome
next m settings measure w Events.Attach = (attaches w, [])
next m settings measure w (Events.Ask c) = ask_by w c (ask_refusal settings measure w c)
next m settings measure w (Events.ToTarget n) = (delivers_to_target settings measure w n, [])
next m settings measure w (Events.ToDebugger n) = (delivers_to_debugger settings measure w n, [])
next m settings measure w Events.TargetTurn = (target_turn m settings measure w, [])
next m settings measure w Events.DebuggerTurn = debugger_turn settings measure w
next m settings measure w (Events.Step t) = (steps m settings measure w t, [])
next m settings measure w Events.TargetLoses = (target_loses w, [])
next m settings measure w Events.DebuggerLoses = debugger_loses w
next m settings measure w (Events.Defer deferring) = (record w { deferring = deferring }, [])
next m settings measure w (Events.Release place) = (releases m settings measure w place, [])

-- A whole run: the link after it, and all that is told.
abbrev pub run : {S : Type 0} → Meaning S → Settings → Measure → World S → List LinkEvent → World S
run m settings measure w [] = w
run m settings measure w (e ∷ es) = run m settings measure (next m settings measure w e).0 es

abbrev pub outcomes : {S : Type 0} → Meaning S → Settings → Measure → World S → List LinkEvent → List Outcome
outcomes m settings measure w [] = []
outcomes m settings measure w (e ∷ es) = (next m settings measure w e).1 ++ outcomes m settings measure (next m settings measure w e).0 es

-- ---- what is done

-- Whether an event is a turn that handles a message, a release that answers a command, or a step that is made.
abbrev pub acts : {S : Type 0} → Meaning S → Settings → Measure → World S → LinkEvent → Bool
acts m settings measure w Events.TargetTurn = is_some (target_front settings measure w)
acts m settings measure w Events.DebuggerTurn = is_some (debugger_front settings measure w)
acts m settings measure w (Events.Step t) = steps_now m settings measure w t
acts m settings measure w (Events.Release place) = is_some (release_front settings measure w place)
acts m settings measure w e = false

-- Whether the last event of a run did so; what was said before it, where there is none.
abbrev pub did_after : {S : Type 0} → Meaning S → Settings → Measure → World S → Bool → List LinkEvent → Bool
did_after m settings measure w before [] = before
did_after m settings measure w before (e ∷ es) = did_after m settings measure (next m settings measure w e).0 (acts m settings measure w e) es
