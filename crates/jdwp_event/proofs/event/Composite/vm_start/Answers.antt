use Rattle.std.proofs.Common.{rules}
use Rattle.jdwp_event.proofs.event.Composite.vm_start.Goals as goal

pub returns : goal.returns
returns c = search rules
