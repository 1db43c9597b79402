use Rattle.jdwp_wire.specs.Streams.{stream}
use Rattle.jdwp_wire.specs.StreamLaws.{found_of_cut}
use Rattle.jdwp_wire.proofs.laws.finds_first_message.Goals as goal

pub returns : goal.returns
returns c = λ limit n message messages small sendable. found_of_cut limit n message (stream messages) small sendable
