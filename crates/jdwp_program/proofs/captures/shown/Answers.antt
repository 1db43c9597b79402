use Rattle.std.proofs.Common.{rules}
use Rattle.jdwp_program.proofs.captures.shown.Goals as goal

pub returns-clause-text : goal.returns-clause-text
returns-clause-text c =
    search rules

pub returns-clause-fault : goal.returns-clause-fault
returns-clause-fault c =
    search rules
