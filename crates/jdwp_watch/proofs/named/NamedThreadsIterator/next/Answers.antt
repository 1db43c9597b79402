use Rattle.std.proofs.Common.{rules}
use Rattle.jdwp_watch.proofs.named.NamedThreadsIterator.next.Goals as goal

pub returns-clause-steps : goal.returns-clause-steps
returns-clause-steps c = search rules
