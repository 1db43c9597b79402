use Rattle.std.proofs.Common.{refl, arith}
use Rattle.jdwp_show.proofs.FoundLemmas.{faulty_handshake, hello_length}
use Rattle.jdwp_judge.proofs.ComingLaws.{no_hello, hello_front}
use Rattle.jdwp_judge.proofs.front.next_hello_found.Goals as goal

pub returns-in-More : goal.returns-in-More
returns-in-More c = no_hello _ c.in-More.ensures.front

pub returns-in-Fault : goal.returns-in-Fault
returns-in-Fault c = (λ more. faulty_handshake _ more _ c.in-Fault.ensures.front, refl, omega arith)

pub returns-in-Whole : goal.returns-in-Whole
returns-in-Whole c = (λ more. hello_front _ more c.in-Whole.ensures.front, refl, hello_length _ c.in-Whole.ensures.front)
