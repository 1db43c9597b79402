use Rattle.std.proofs.Common.{◌≡◌, length, arith}
use Rattle.jdwp_judge.specs.Entries.{all_with}
use Rattle.jdwp_judge.proofs.BacklogLaws.{length-all_with}
use Rattle.jdwp_judge.proofs.backlog.Backlog.count.Goals as goal

pub returns : goal.returns
returns c =
    let same : length (all_with c.args.self.now.entries.items c.args.self.now.bodies.items) ≡ length c.args.self.now.entries.items = length-all_with c.args.self.now.entries.items c.args.self.now.bodies.items in
    omega (arith, same)
