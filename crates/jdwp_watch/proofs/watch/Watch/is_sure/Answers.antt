use Rattle.std.proofs.lemmas.Bool.{ltb-true}
use Rattle.jdwp_watch.specs.Watching.{watch_of}
use Rattle.jdwp_watch.proofs.Sure.{suspended-in-each}
use Rattle.jdwp_watch.proofs.watch.Watch.is_sure.Goals as goal

pub returns-clause-suspended : goal.returns-clause-suspended
returns-clause-suspended c is = suspended-in-each (watch_of c.args.self.now) c.args.thread.0 c.sure.result (ltb-true 0 c.sure.result is) c.sure.ensures.covered
