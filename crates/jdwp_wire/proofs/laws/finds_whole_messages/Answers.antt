use Rattle.jdwp_wire.specs.StreamLaws.{whole_handshake, whole_packet, packet_length}
use Rattle.jdwp_wire.proofs.laws.finds_whole_messages.Goals as goal

pub returns-clause-handshake : goal.returns-clause-handshake
returns-clause-handshake c = whole_handshake

pub returns-clause-packet : goal.returns-clause-packet
returns-clause-packet c = whole_packet

pub returns-clause-size : goal.returns-clause-size
returns-clause-size c = packet_length
