-- Messages, and the byte streams that they make (JDWP specification, "JDWP overview" and "Packets": the handshake, then packets).
use Rattle.std.specs.Prelude.{◌≡◌, ℕ, Bool, true, false, List, [], ◌∷◌, ◌++◌, length, nat_le, if◌then◌else◌}
use Rattle.std.specs.List.{flat_map, AllByRecursion}
use Rattle.jdwp_wire.specs.declared.frame.FrameFault.{FrameFault}
use Rattle.jdwp_wire.specs.declared.frame.NextHello.{NextHello}
use Rattle.jdwp_wire.specs.declared.frame.NextHello.TheVariants as hello
use Rattle.jdwp_wire.specs.declared.packet.Header.{Header}
use Rattle.jdwp_wire.specs.Frames.{packet_bytes, IsPacket, Front, front}
use Rattle.jdwp_wire.specs.Frames as frames
use Rattle.jdwp_wire.specs.Handshake.{handshake_bytes, handshake_front}

-- front, and then some rest, is the whole
abbrev pub IsFront : List ℕ → List ℕ → Type 0
IsFront front whole = (rest : List ℕ) × (whole ≡ front ++ rest)

-- what an end sends
pub data Message : Type 0 where
  Handshake : Message
  Packet : Header → List ℕ → Message

abbrev pub message_bytes : Message → List ℕ
message_bytes Handshake = handshake_bytes
message_bytes (Packet header body) = packet_bytes header body

-- the bytes of these messages, one after the other
abbrev pub stream : List Message → List ℕ
stream messages = flat_map message_bytes messages

-- a packet of at most `limit` bytes
abbrev pub IsPacketMessage : ℕ → Message → Type 0
IsPacketMessage limit Handshake = ⊥
IsPacketMessage limit (Packet header body) = IsPacket limit header body

-- the handshake, or a packet of at most `limit` bytes
abbrev pub IsSendable : ℕ → Message → Type 0
IsSendable limit Handshake = Unit {0}
IsSendable limit (Packet header body) = IsPacket limit header body

abbrev pub AreSendable : ℕ → List Message → Type 0
AreSendable limit messages = AllByRecursion (IsSendable limit) messages

-- what one end sends in a session, or the beginning of it: the handshake, and then packets
abbrev pub IsConversation : ℕ → List Message → Type 0
IsConversation limit [] = Unit {0}
IsConversation limit (Handshake ∷ messages) = AllByRecursion (IsPacketMessage limit) messages
IsConversation limit (Packet header body ∷ messages) = ⊥

-- what stands at the front of the rest of such a stream: a message and how many bytes it takes, a beginning of one, or a fault
pub data NextMessage : Type 0 where
  Whole : Message → ℕ → NextMessage
  More : NextMessage
  Fault : FrameFault → NextMessage

abbrev pub after_handshake : Front → NextMessage
after_handshake (frames.Whole header body used) = Whole (Packet header body) used
after_handshake frames.More = More
after_handshake (frames.Fault fault) = Fault fault

abbrev pub at_handshake : NextHello → NextMessage
at_handshake hello.Whole = Whole Handshake 14
at_handshake hello.More = More
at_handshake (hello.Fault fault) = Fault fault

-- before the handshake was read the handshake is looked for, and a packet after it
abbrev pub next_message : ℕ → Bool → List ℕ → NextMessage
next_message limit true bytes = after_handshake (front limit bytes)
next_message limit false bytes = at_handshake (handshake_front bytes)

-- the handshake is looked for first, and packets after it
abbrev pub is_packet : Message → Bool
is_packet Handshake = false
is_packet (Packet header body) = true

-- what stands at the front of the first n bytes of a stream that begins with this message: the message once they have all of it
abbrev pub front_of_cut : ℕ → Message → NextMessage
front_of_cut n message = if nat_le (length (message_bytes message)) n then Whole message (length (message_bytes message)) else More
