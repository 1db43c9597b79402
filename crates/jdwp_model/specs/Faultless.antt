-- Neither end ever refuses what the other sends (JDWP specification, "JDWP Handshake" and "JDWP Packets").
use Rattle.std.specs.Prelude.{◌≡◌, ◌≤◌, Bool, true, false, ◌||◌, List, [], ◌∷◌, ◌++◌, length, None}
use Rattle.jdwp_layout.specs.declared.answer.Answer.{Answer}
use Rattle.jdwp_end.specs.declared.phase.Phase.{Phase}
use Rattle.jdwp_end.specs.declared.phase.Phase.TheVariants.{AwaitingHandshake, Established}
use Rattle.jdwp_machine.specs.Meanings.{Meaning}
use Rattle.jdwp_debuggee.specs.Settings.{Settings}
use Rattle.jdwp_debuggee.specs.State.{Moment}
use Rattle.jdwp_action.specs.Actions.{Command}
use Rattle.jdwp_mirror.specs.Messages.{Ticket, Call, Greets, Asks, Reply}
use Rattle.jdwp_mirror.specs.Mirror.{ends}
use Rattle.jdwp_mirror.specs.Faults.{is_waited_for, fault_of}
use Rattle.jdwp_model.specs.Events
use Rattle.jdwp_model.specs.Events.{LinkEvent, defer_nothing}
use Rattle.jdwp_model.specs.World.{Measure, is_closed, Packet, World, opening}
use Rattle.jdwp_model.specs.Next.{target_turn, has_end, reader, debugger_turn, acts, next, run}
use Rattle.jdwp_model.specs.Headline.{MayBegin}

-- The packet that a debugger reads next has no fault, as the debugger is now. So no packet is refused where it is read.
abbrev pub NoPacketIsRefused : {S : Type 0} → World S → Type 0
NoPacketIsRefused {S} w =
    (packet : Packet S) (rest : List (Packet S)) → is_closed w.debugger ≡ false → w.to_debugger ≡ packet ∷ rest → fault_of (reader w) packet.0 ≡ None

-- what a target reads: the handshake while it waits for it, and then commands
abbrev pub is_in_place : Phase → Call → Bool
is_in_place AwaitingHandshake Greets = true
is_in_place Established (Asks k c) = true
is_in_place phase call = false

-- The message that a target reads next is in its place.
abbrev pub NoCallIsRefused : {S : Type 0} → World S → Type 0
NoCallIsRefused w = (call : Call) (rest : List Call) → is_closed w.target ≡ false → w.to_target ≡ call ∷ rest → is_in_place w.target call ≡ true

-- A reply that a debugger reads next is to one of the commands that wait: under its ticket, which no other has, and to that very command.
-- So a reply may as well carry its ticket alone.
abbrev pub AnswersOneWaiting : {S : Type 0} → World S → Type 0
AnswersOneWaiting {S} w =
    (k : Ticket) (c : Command) (answer : Answer) (then : Moment S) (rest : List (Packet S)) → is_closed w.debugger ≡ false → w.to_debugger ≡ (Reply k c answer, then) ∷ rest →
    (before : List (Ticket × Command)) × (after : List (Ticket × Command)) × (w.pending ≡ before ++ (k, c) ∷ after)
    × (is_waited_for k before ≡ false) × (is_waited_for k after ≡ false)

-- Sharper, as long as no target begins to defer replies: it is to the command that waits longest.
abbrev pub AnswersFirstWaiting : {S : Type 0} → World S → Type 0
AnswersFirstWaiting {S} w =
    (k : Ticket) (c : Command) (answer : Answer) (then : Moment S) (rest : List (Packet S)) → is_closed w.debugger ≡ false → w.to_debugger ≡ (Reply k c answer, then) ∷ rest →
    (others : List (Ticket × Command)) × (w.pending ≡ (k, c) ∷ others)

-- after every list of events by which no target begins to defer replies
abbrev pub AlwaysUndeferred : {S : Type 0} → Meaning S → (World S → Type 0) → Type 0
AlwaysUndeferred {S} m P =
    (settings : Settings) (measure : Measure) (s : S) (events : List LinkEvent) → MayBegin m settings s → defer_nothing events ≡ true →
    P (run m settings measure (opening m s) events)

-- No more than two composites ever wait for the widths of ids: VM_START and VM_DEATH.
abbrev pub FewWait : {S : Type 0} → World S → Type 0
FewWait w = length w.parked ≤ 2

-- ---- what that means for turns

-- A target that handles a message notices no loss.
abbrev pub TurnsLoseNothing : {S : Type 0} → Meaning S → Settings → Measure → World S → Type 0
TurnsLoseNothing m settings measure w = (target_turn m settings measure w).lost ≡ w.lost

-- the packet in front ends the session, or a composite that waited before it
abbrev pub ends_in_front : {S : Type 0} → List (Packet S) → List (Packet S) → Bool
ends_in_front parked [] = false
ends_in_front parked (packet ∷ rest) = ends packet.0 || has_end parked

-- A debugger's turn closes its end only at VM_DEATH and at an OK reply to Dispose.
abbrev pub TurnsCloseAtEnds : {S : Type 0} → Settings → Measure → World S → Type 0
TurnsCloseAtEnds settings measure w =
    is_closed w.debugger ≡ false → is_closed (debugger_turn settings measure w).0.debugger ≡ true → ends_in_front w.parked w.to_debugger ≡ true

-- a turn of an end, a release, or a step
abbrev pub is_turn_release_or_step : LinkEvent → Bool
is_turn_release_or_step Events.TargetTurn = true
is_turn_release_or_step Events.DebuggerTurn = true
is_turn_release_or_step (Events.Step t) = true
is_turn_release_or_step (Events.Release place) = true
is_turn_release_or_step e = false

-- Where a turn, a release or a step does nothing, all stays as it is, and nothing is told.
abbrev pub IdlesUnchanged : {S : Type 0} → Meaning S → Settings → Measure → World S → Type 0
IdlesUnchanged m settings measure w = (e : LinkEvent) → is_turn_release_or_step e ≡ true → acts m settings measure w e ≡ false → next m settings measure w e ≡ (w, [])

-- after every list of events
abbrev pub AtEachTurn : {S : Type 0} → Meaning S → (Settings → Measure → World S → Type 0) → Type 0
AtEachTurn {S} m P =
    (settings : Settings) (measure : Measure) (s : S) (events : List LinkEvent) → MayBegin m settings s → P settings measure (run m settings measure (opening m s) events)
