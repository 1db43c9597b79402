use Rattle.std.proofs.Common.{rules}
use Rattle.jdwp_judge.proofs.rules.item_fault.Goals as goal

pub returns-in-Some : goal.returns-in-Some
returns-in-Some c = search rules
