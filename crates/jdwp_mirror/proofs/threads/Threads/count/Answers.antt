use Rattle.std.proofs.Common.{sym}
use Rattle.jdwp_mirror.proofs.NumberingLemmas.{known-count, unknown-count}
use Rattle.jdwp_mirror.proofs.threads.Threads.count.Goals as goal

pub returns-in-Some : goal.returns-in-Some
returns-in-Some c = sym (known-count c.args.self.now c.args.id.0 c.in-Some.known (sym c.in-Some.ensures))

pub returns-in-None : goal.returns-in-None
returns-in-None c = sym (unknown-count c.args.self.now c.args.id.0 (sym c.in-None.ensures))
