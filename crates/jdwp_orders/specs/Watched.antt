-- What a debugger of the model of both ends is surely told of suspension: its watch, over the commands that it asked and the packets that it
-- read in its session.
use Rattle.std.specs.Prelude.{◌≤◌, ℕ, Bool, true, false, ◌&&◌, List, [], ◌∷◌, Option, Some, None, if◌then◌else◌}
use Rattle.jdwp_event.specs.Composites.{CompositeMeaning}
use Rattle.jdwp_machine.specs.Meanings.{Meaning}
use Rattle.jdwp_debuggee.specs.Settings.{Settings}
use Rattle.jdwp_action.specs.Actions.{Command}
use Rattle.jdwp_mirror.specs.Messages.{Ticket, Message, Handshake, Reply, Report, id_sizes}
use Rattle.jdwp_model.specs.Events
use Rattle.jdwp_model.specs.Events.{LinkEvent, AskRefusal}
use Rattle.jdwp_model.specs.World.{Measure, is_closed, Packet, World}
use Rattle.jdwp_model.specs.Next.{ask_refusal, debugger_front, next}
use Rattle.jdwp_apart.specs.Messages.{Composite, may_ask}
use Rattle.jdwp_apart.specs.Watch.{Watch, start, asks, reads_reply, reads_composite}
use Rattle.jdwp_apart.specs.World.{reply_of}

-- What a debugger says of a composite, by how many commands were answered before it: the ticket of one after which its events surely took
-- effect, as of the EventRequest.Set that made their request, or 0.
abbrev pub Since : Type 0
Since = ℕ → CompositeMeaning → ℕ

-- It is of a command that was answered before.
abbrev pub IsPast : Since → Type 0
IsPast since = (n : ℕ) (c : CompositeMeaning) → since n c ≤ n

abbrev pub composite_after : Since → ℕ → CompositeMeaning → Composite
composite_after since n c = record { meaning = c; since = since n c }

-- ---- packets are read

abbrev pub hears : Since → Watch → Message → Watch
hears since v Handshake = v
hears since v (Reply k c answer) = reads_reply v (reply_of c answer)
hears since v (Report c) = reads_composite v (composite_after since v.answered c)

abbrev pub hears_all : {S : Type 0} → Since → Watch → List (Packet S) → Watch
hears_all since v [] = v
hears_all since v (p ∷ ps) = hears_all since (hears since v p.0) ps

-- ---- what an event of the link does

abbrev pub asks_by : Watch → Command → Option AskRefusal → Watch
asks_by v c (Some refusal) = v
asks_by v c None = asks v c

-- The handshake is answered by IDSizes, and what came before the reply to that is read with it.
abbrev pub hears_packet : {S : Type 0} → Since → World S → Watch → Message → Watch
hears_packet since w v Handshake = asks v id_sizes
hears_packet since w v (Reply k c answer) = hears since (hears_all since v w.parked) (Reply k c answer)
hears_packet since w v (Report c) = if w.ready then hears since v (Report c) else v

abbrev pub hears_front : {S : Type 0} → Since → World S → Watch → Option (Packet S × List (Packet S)) → Watch
hears_front since w v None = v
hears_front since w v (Some (p, rest)) = hears_packet since w v p.0

abbrev pub heeds : {S : Type 0} → Since → Settings → Measure → World S → Watch → LinkEvent → Watch
heeds since settings measure w v (Events.Ask c) = asks_by v c (ask_refusal settings measure w c)
heeds since settings measure w v Events.DebuggerTurn = hears_front since w v (debugger_front settings measure w)
heeds since settings measure w v e = v

-- a session begins, in which the debugger knows nobody
abbrev pub begins : Bool → Watch
begins one_by_one = start one_by_one (λ _. false)

-- The debugger begins anew as its end closes.
abbrev pub watch_next : {S : Type 0} → Meaning S → Bool → Since → Settings → Measure → World S → Watch → LinkEvent → Watch
watch_next m one_by_one since settings measure w v e =
    if is_closed (next m settings measure w e).0.debugger then begins one_by_one else heeds since settings measure w v e

abbrev pub watch_after : {S : Type 0} → Meaning S → Bool → Since → Settings → Measure → World S → Watch → List LinkEvent → Watch
watch_after m one_by_one since settings measure w v [] = v
watch_after m one_by_one since settings measure w v (e ∷ es) =
    watch_after m one_by_one since settings measure (next m settings measure w e).0 (watch_next m one_by_one since settings measure w v e) es

-- ---- what was asked

abbrev pub all_may_ask : List (Ticket × Command) → Bool
all_may_ask [] = true
all_may_ask (p ∷ ps) = may_ask p.1 && all_may_ask ps

abbrev pub all_might_ask : {S : Type 0} → List (Packet S) → Bool
all_might_ask [] = true
all_might_ask ((Handshake, a) ∷ ps) = all_might_ask ps
all_might_ask ((Reply k c answer, a) ∷ ps) = may_ask c && all_might_ask ps
all_might_ask ((Report c, a) ∷ ps) = all_might_ask ps

-- Each command that was asked in the session, answered or not, is one that the sessions of such targets are spoken of with.
abbrev pub asked_within : {S : Type 0} → World S → Bool
asked_within w = all_may_ask w.pending && all_might_ask w.read
