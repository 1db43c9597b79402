use Rattle.std.proofs.Common.{rules}
use Rattle.jdwp_mirror.proofs.mirror.Mirror.known.Goals as goal

pub returns-clause-all : goal.returns-clause-all
returns-clause-all c = search rules
