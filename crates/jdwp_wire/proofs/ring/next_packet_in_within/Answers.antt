use Rattle.std.proofs.Common.{◌∙◌, arith, refl}
use Rattle.jdwp_wire.specs.FrameLaws.{front_is, front_only}
use Rattle.jdwp_wire.proofs.ring.next_packet_in_within.Goals as goal

pub returns : goal.returns
returns c =
    let limit = c.args.limits.now.packet in
    let items = c.args.ring.now.items in
    let is = c.packet-limit.ensures.value in
    let small = c.packet-limit.ensures.within in
    let exact = c.find_packet_in.ensures.exact in (
      (refl, (λ _. tt), c.find_packet_in.follows.holds-at-none),
      record {
        stays = tt;
        front = rw exact (front_is limit items c.are_bytes.ensures);
        only = λ f h. exact ∙ front_only limit items f (omega (arith, is, small)) h;
        exact = exact;
      },
    )
