use Rattle.std.proofs.Common.{rules}
use Rattle.jdwp_event.proofs.event.Composite.policy.Goals as goal

pub returns : goal.returns
returns c = search rules
