use Rattle.jdwp_engine.specs.Rounds.{id_in}
use Rattle.jdwp_engine.proofs.Ahead.{ahead-after, ahead-next, ahead-none}
use Rattle.jdwp_engine.proofs.walk.ThreadWalk.next.Goals as goal

pub returns-then-place-threads-clause-next : goal.returns-then-place-threads-clause-next
returns-then-place-threads-clause-next c =
    ahead-next c.args.threads.now (id_in c.args.self.now.last) c.args.self.now.place c.in-Some.place c.in-Some.is c.if-place-threads.true c.requires

pub returns-then-place-threads-clause-ahead : goal.returns-then-place-threads-clause-ahead
returns-then-place-threads-clause-ahead c =
    ahead-after c.args.threads.now (id_in c.args.self.now.last) c.args.self.now.place c.in-Some.place c.in-Some.is c.if-place-threads.true c.requires

pub returns-else-place-threads-clause-next : goal.returns-else-place-threads-clause-next
returns-else-place-threads-clause-next c =
    ahead-none c.args.threads.now (id_in c.args.self.now.last) c.args.self.now.place c.in-Some.place c.in-Some.is c.if-place-threads.false c.requires
