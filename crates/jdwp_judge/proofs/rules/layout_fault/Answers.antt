use Rattle.std.proofs.Common.{rules}
use Rattle.jdwp_judge.proofs.rules.layout_fault.Goals as goal

pub returns-in-Err : goal.returns-in-Err
returns-in-Err c = search rules
