use Rattle.std.proofs.Common.{◌≡◌, rules}
use Rattle.jdwp_apart.specs.Watch.{sure}
use Rattle.jdwp_watch.specs.Watching.{watch_of}
use Rattle.jdwp_watch.proofs.Sure.{covered-in-each}
use Rattle.jdwp_watch.proofs.watch.Watch.sure.Goals as goal

pub returns-clause-covered : goal.returns-clause-covered
returns-clause-covered c =
    let value : c.saturating_sub-2.result ≡ sure (watch_of c.args.self.now) c.args.thread.0 = search rules in
    covered-in-each (watch_of c.args.self.now) c.args.thread.0 c.saturating_sub-2.result value c.shows_only_suspended_threads.ensures.covered
