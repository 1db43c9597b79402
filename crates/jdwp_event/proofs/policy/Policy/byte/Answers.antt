use Rattle.std.proofs.Common.{rules}
use Rattle.jdwp_event.proofs.policy.Policy.byte.Goals as goal

pub returns-in-All : goal.returns-in-All
returns-in-All c = search rules
