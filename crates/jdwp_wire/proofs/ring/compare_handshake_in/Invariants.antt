use Rattle.std.proofs.Common.{◌≡◌, drop}
use Rattle.jdwp_wire.specs.declared.frame.TheConstants.{HANDSHAKE}
use Rattle.jdwp_wire.specs.Handshake.{handshake_front, handshake_from}
use Rattle.jdwp_wire.proofs.ring.compare_handshake_in.Given as goal

abbrev pub invariant-loop-place : goal.invariant-loop-place
invariant-loop-place l = handshake_from l.place (drop l.place HANDSHAKE) (drop l.place l.ring.items) ≡ handshake_front l.ring.items
