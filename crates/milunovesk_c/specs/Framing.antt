-- What stands in front of bytes, in numbers.
use Rattle.jdwp_wire.specs.FaultNumbers.{fault_number}
use Rattle.jdwp_wire.specs.Frames.{Front, Whole, More, Fault}
use Rattle.jdwp_wire.specs.declared.packet.Header.{Header}
use Rattle.jdwp_wire.specs.declared.packet.PacketKind.{PacketKind}
use Rattle.jdwp_wire.specs.declared.packet.PacketKind.TheVariants as kind
use Rattle.milunovesk_c.specs.declared.framed.Framed.{Framed}

abbrev pub framed_packet : PacketKind → Header → Framed
framed_packet (kind.Command set number) h = record { kind = 1; set = set; number = number; error = 0; fault = 0; id = h.id; length = h.length }
framed_packet (kind.Reply e) h = record { kind = 2; set = 0; number = 0; error = e.0; fault = 0; id = h.id; length = h.length }

abbrev pub framed : Front → Framed
framed (Whole header body used) = framed_packet header.kind header
framed More = record { kind = 0; set = 0; number = 0; error = 0; fault = 0; id = 0; length = 0 }
framed (Fault fault) = record { kind = 3; set = 0; number = 0; error = 0; fault = fault_number fault; id = 0; length = 0 }
