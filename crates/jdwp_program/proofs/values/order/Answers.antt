use Rattle.std.proofs.Common.{rules}
use Rattle.jdwp_program.proofs.values.order.Goals as goal

pub returns-then-eq-2-clause-one : goal.returns-then-eq-2-clause-one
returns-then-eq-2-clause-one c =
    search rules

pub returns-then-eq-2-clause-apart : goal.returns-then-eq-2-clause-apart
returns-then-eq-2-clause-apart c =
    search rules
