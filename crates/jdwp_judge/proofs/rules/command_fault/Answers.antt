use Rattle.std.proofs.Common.{rules}
use Rattle.jdwp_judge.proofs.rules.command_fault.Goals as goal

pub returns-then-is_some : goal.returns-then-is_some
returns-then-is_some c = search rules
