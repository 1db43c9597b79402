use Rattle.std.proofs.Common.{arith}
use Rattle.std.proofs.Math.Facts.{Fits-lt-pow}
use Rattle.jdwp_wire.specs.FrameLaws.{front_is, front_only}
use Rattle.jdwp_wire.proofs.frame.next_packet_within.Goals as goal

pub returns-clause-front : goal.returns-clause-front
returns-clause-front c = rw (c.find_packet.ensures, c.packet.ensures.value) (front_is c.args.limits.now.packet c.args.bytes.now (λ i. Fits-lt-pow (c.type_inv.bytes i)))

pub returns-clause-only : goal.returns-clause-only
returns-clause-only c = λ f h.
    let is = c.packet.ensures.value in
    let small = c.packet.ensures.within in
    rw (c.find_packet.ensures, is) (front_only c.args.limits.now.packet c.args.bytes.now f (omega (arith, is, small)) h)
