use Rattle.std.proofs.Common.{rules}
use Rattle.jdwp_mirror.proofs.known.KnownThreadsIterator.next.Goals as goal

pub returns-clause-steps : goal.returns-clause-steps
returns-clause-steps c = search rules
