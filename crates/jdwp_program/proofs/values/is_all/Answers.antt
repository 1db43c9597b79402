use Rattle.std.proofs.Common.{rules}
use Rattle.jdwp_program.proofs.values.is_all.Goals as goal

pub returns-then-eq-2-clause-all : goal.returns-then-eq-2-clause-all
returns-then-eq-2-clause-all c =
    search rules

pub returns-then-eq-2-clause-none : goal.returns-then-eq-2-clause-none
returns-then-eq-2-clause-none c =
    search rules
