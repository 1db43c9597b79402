use Rattle.std.proofs.Common.{◌≡◌, drop}
use Rattle.jdwp_wire.specs.declared.frame.TheConstants.{HANDSHAKE}
use Rattle.jdwp_wire.specs.Handshake.{handshake_front, handshake_from}
use Rattle.jdwp_wire.proofs.frame.compare_handshake.Given as goal

abbrev pub invariant-loop-place : goal.invariant-loop-place
invariant-loop-place l = handshake_from l.place (drop l.place HANDSHAKE) (drop l.place l.bytes) ≡ handshake_front l.bytes
