use Rattle.std.proofs.Common.{rules}
use Rattle.jdwp_judge.proofs.rules.order_fault.Goals as goal

pub returns-in-Fault : goal.returns-in-Fault
returns-in-Fault c = search rules
