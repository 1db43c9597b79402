use Rattle.std.proofs.Common.{◌∙◌}
use Rattle.jdwp_wire.specs.HandshakeLaws.{handshake_front_is, handshake_front_only}
use Rattle.jdwp_wire.proofs.ring.next_hello_in.Goals as goal

pub returns-clause-front : goal.returns-clause-front
returns-clause-front c = rw c.compare_handshake_in.ensures (handshake_front_is c.args.ring.now.items)

pub returns-clause-only : goal.returns-clause-only
returns-clause-only c = λ f h. c.compare_handshake_in.ensures ∙ handshake_front_only c.args.ring.now.items f h
