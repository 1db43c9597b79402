use Rattle.std.proofs.Common.{rules}
use Rattle.jdwp_target.proofs.stepping.tell.Goals as goal

pub returns-else-done-clause-end : goal.returns-else-done-clause-end
returns-else-done-clause-end g c = search rules
