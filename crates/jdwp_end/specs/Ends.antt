-- One end of a session, as contracts see it, and what each call does to it (JDWP specification, "JDWP overview" and "Packets": each end
-- sends the handshake, and then packets).
use Rattle.std.specs.Prelude.{◌≡◌, ℕ, ◌+◌, ◌-◌, ◌*◌, Bool, true, false, nat_le, List, [], ◌++◌, length, drop, if◌then◌else◌}
use Rattle.jdwp_wire.specs.Limits.{Limits}
use Rattle.jdwp_wire.specs.declared.packet.Header.{Header}
use Rattle.jdwp_wire.specs.Streams.{Message, NextMessage, Whole, More, Fault, message_bytes, next_message}
use Rattle.jdwp_end.specs.declared.front.Front.{Front}
use Rattle.jdwp_end.specs.declared.front.Front.TheVariants as found
use Rattle.jdwp_end.specs.declared.phase.Phase.{Phase}
use Rattle.jdwp_end.specs.declared.phase.Phase.TheVariants.{Closed, AwaitingHandshake, Established}
use Rattle.jdwp_end.specs.Sessions.{Session, new_session}

-- The limits; the phase of the session; the bytes that were fed and not handled; those that wait to leave; and what happened in the
-- session.
pub record End : Type 0 where
  pub limits : Limits
  pub phase : Phase
  pub incoming : List ℕ
  pub outgoing : List ℕ
  pub session : Session

-- ---- how an end stands

abbrev pub is_open_phase : Phase → Bool
is_open_phase Closed = false
is_open_phase AwaitingHandshake = true
is_open_phase Established = true

-- a session was begun, and not closed since
abbrev pub is_open : End → Bool
is_open end = is_open_phase end.phase

abbrev pub is_established_phase : Phase → Bool
is_established_phase Closed = false
is_established_phase AwaitingHandshake = false
is_established_phase Established = true

-- the handshake was handled, and the session was not closed since
abbrev pub is_established : End → Bool
is_established end = is_established_phase end.phase

-- so much waits to leave that nothing is handled
abbrev pub is_paused : End → Bool
is_paused end = nat_le end.limits.packet (length end.outgoing)

-- how many bytes may wait to leave
abbrev pub most_outgoing : Limits → ℕ
most_outgoing limits = limits.packet * 2

-- how many bytes more are taken
abbrev pub room_of : End → ℕ
room_of end = if is_open end then end.limits.packet - length end.incoming else 0

-- what stands at the front of what came: a handshake is looked for first, and then packets
abbrev pub next_at : ℕ → Phase → List ℕ → NextMessage
next_at limit Closed bytes = More
next_at limit AwaitingHandshake bytes = next_message limit false bytes
next_at limit Established bytes = next_message limit true bytes

abbrev pub next_of : End → NextMessage
next_of end = next_at end.limits.packet end.phase end.incoming

-- what there is to handle: nothing at an end that is closed or paused
abbrev pub front_of : End → NextMessage
front_of end = if is_paused end then More else next_of end

-- what an end tells of it, without the data of a packet: a handshake takes 14 bytes, and a packet with this header so many
abbrev pub TellsFront : Front → NextMessage → Type 0
TellsFront found.More next = next ≡ More
TellsFront (found.Fault fault) next = next ≡ Fault fault
TellsFront found.Handshake next = next ≡ Whole Message.Handshake 14
TellsFront (found.Packet header used) next = (body : List ℕ) × (next ≡ Whole (Message.Packet header body) used)

-- a packet of so many bytes stands in front of an end
abbrev pub HasPacket : ℕ → End → Type 0
HasPacket used end = (header : Header) × (body : List ℕ) × (front_of end ≡ Whole (Message.Packet header body) used)

-- a packet with this header, of so many bytes, stands in front of an end
abbrev pub HasPacketWith : Header → ℕ → End → Type 0
HasPacketWith header used end = (body : List ℕ) × (front_of end ≡ Whole (Message.Packet header body) used)

-- ---- what each call does

-- an end before its first session
abbrev pub new_end : Limits → End
new_end limits = record { limits = limits; phase = Closed; incoming = []; outgoing = []; session = new_session }

-- a session begins
abbrev pub opened_end : End → End
opened_end end = record end { phase = AwaitingHandshake; incoming = []; outgoing = []; session = new_session }

-- bytes came
abbrev pub with_fed : List ℕ → End → End
with_fed bytes end = record end { incoming = end.incoming ++ bytes; session = record end.session { fed = end.session.fed ++ bytes } }

-- the message of so many bytes in front is handled
abbrev pub with_handled : Message → ℕ → End → End
with_handled message used end = record end {
  phase = Established;
  incoming = drop used end.incoming;
  session = record end.session { handled = end.session.handled ++ message_bytes message; turns = end.session.turns + 1 };
}

-- bytes are to leave
abbrev pub with_enqueued : List ℕ → End → End
with_enqueued bytes end = record end { outgoing = end.outgoing ++ bytes; session = record end.session { enqueued = end.session.enqueued ++ bytes } }

-- bytes left
abbrev pub with_taken : List ℕ → End → End
with_taken bytes end = record end { outgoing = drop (length bytes) end.outgoing; session = record end.session { taken = end.session.taken ++ bytes } }

-- the session ends; what waits to leave may still be taken
abbrev pub closed_end : End → End
closed_end end = record end { phase = Closed }

-- the connection is lost: the end is closed, and nothing waits
abbrev pub lost_end : End → End
lost_end end = record end { phase = Closed; incoming = []; outgoing = []; session = record end.session { lost = true } }
