use Rattle.std.proofs.Common.{refl, arith}
use Rattle.jdwp_show.proofs.FoundLemmas.{faulty_packets, packet_length}
use Rattle.jdwp_judge.proofs.ComingLaws.{no_packet, packet_front}
use Rattle.jdwp_judge.proofs.front.next_packet_found.Goals as goal

pub returns-in-More : goal.returns-in-More
returns-in-More c = no_packet _ c.in-More.ensures.front

pub returns-in-Fault : goal.returns-in-Fault
returns-in-Fault c = (λ more. faulty_packets _ more _ c.in-Fault.ensures.front, refl, omega arith)

pub returns-in-Whole : goal.returns-in-Whole
returns-in-Whole c =
    let front = c.in-Whole.ensures.front in
    let long = packet_length _ _ _ _ front in
    (λ more. packet_front _ more _ _ _ front, long.2, long.1)
