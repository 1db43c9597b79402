use Rattle.std.proofs.Common.{rules}
use Rattle.jdwp_judge.proofs.rules.target_fault.Goals as goal

pub returns-else-is_some : goal.returns-else-is_some
returns-else-is_some c = search rules
