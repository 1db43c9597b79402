use Rattle.std.proofs.Common.{rules}
use Rattle.jdwp_program.proofs.captures.judged.Goals as goal

pub returns-in_ok-push_fault-in-No-clause-fault : goal.returns-in_ok-push_fault-in-No-clause-fault
returns-in_ok-push_fault-in-No-clause-fault c =
    search rules

pub returns-in_ok-push_fault-in-No-clause-text : goal.returns-in_ok-push_fault-in-No-clause-text
returns-in_ok-push_fault-in-No-clause-text c =
    search rules
