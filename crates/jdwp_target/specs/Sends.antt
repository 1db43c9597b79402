-- What a target sends (JDWP specification, "Packets"; "Event": Composite).
use Rattle.std.specs.Prelude.{ℕ, ◌+◌, ⊤, List, length, Option, Some, None}
use Rattle.jdwp_wire.specs.Widths.{Widths}
use Rattle.jdwp_wire.specs.Streams.{Message, Packet}
use Rattle.jdwp_wire.specs.declared.packet.PacketKind.{PacketKind}
use Rattle.jdwp_wire.specs.declared.packet.PacketKind.TheVariants as kind
use Rattle.jdwp_layout.specs.CommandNumbers.{EVENT, COMPOSITE}
use Rattle.jdwp_layout.specs.Writes.{data_canonical}
use Rattle.jdwp_layout.specs.declared.answer.Answer.{Answer}
use Rattle.jdwp_end.specs.declared.phase.Phase.{Phase}
use Rattle.jdwp_end.specs.declared.phase.Phase.TheVariants.{Closed, AwaitingHandshake, Established}
use Rattle.jdwp_event.specs.CompositeBytes.{EncodesComposite, composite_canonical}
use Rattle.jdwp_event.specs.Composites.{CompositeMeaning, composite_data}
use Rattle.jdwp_action.specs.AnswerPackets.{answer_bytes, error_of}

-- a packet with this data
abbrev pub packet_with : ℕ → PacketKind → List ℕ → Message
packet_with id packet_kind body = Packet (record { length = 11 + length body; id = id; kind = packet_kind }) body

-- the reply to the command of this id
abbrev pub reply_to : Widths → ℕ → Answer → Message
reply_to w id answer = packet_with id (kind.Reply (error_of answer)) (answer_bytes w answer)

-- a composite under this id
abbrev pub report_of : Widths → ℕ → CompositeMeaning → Message
report_of w id c = packet_with id (kind.Command EVENT COMPOSITE.number) (data_canonical w (composite_data c))

-- ---- what is sent can be read

-- a composite is encoded by its bytes: so whoever reads them reads it
abbrev pub IsEncoded : Widths → Option CompositeMeaning → Type 0
IsEncoded w None = ⊤
IsEncoded w (Some c) = EncodesComposite w c (composite_canonical w c)

-- nothing is sent but in an established session
abbrev pub EncodesSent : Widths → Phase → Option CompositeMeaning → Type 0
EncodesSent w Established sends = IsEncoded w sends
EncodesSent w AwaitingHandshake sends = ⊤
EncodesSent w Closed sends = ⊤
