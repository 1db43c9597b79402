use Rattle.std.proofs.Common.{ap, arith}
use Rattle.jdwp_show.specs.Found.{Found}
use Rattle.jdwp_show.specs.Items.{item_at}
use Rattle.jdwp_judge.specs.Heard.{item_of}
use Rattle.jdwp_judge.proofs.BacklogLaws.{pushed}
use Rattle.jdwp_judge.proofs.backlog.Backlog.push.Goals as goal

pub returns-in-Ok : goal.returns-in-Ok
returns-in-Ok c =
    let heard = c.args.heard.now in
    pushed c.args.self.now.entries.items c.push.new.self.items c.args.self.now.bodies.items c.extend_from_slice.new.self.items c.parts-kind.result.1.now _ (item_of heard) c.args.self.now.fits c.in-Ok.ensures.items c.in_ok-extend_from_slice.ensures.items (omega arith)
    (ap (λ (f : Found). item_at heard.piece heard.sender f) c.parts-kind.ensures)
