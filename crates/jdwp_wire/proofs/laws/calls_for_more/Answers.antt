use Rattle.jdwp_wire.specs.StreamLaws.{short_handshake, short_packet, no_bytes}
use Rattle.jdwp_wire.proofs.laws.calls_for_more.Goals as goal

pub returns-clause-handshake : goal.returns-clause-handshake
returns-clause-handshake c = short_handshake

pub returns-clause-packet : goal.returns-clause-packet
returns-clause-packet c = short_packet

pub returns-clause-nothing : goal.returns-clause-nothing
returns-clause-nothing c = no_bytes
