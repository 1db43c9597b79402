use Rattle.std.proofs.Common.{rules}
use Rattle.jdwp_script.proofs.read.check.Goals as goal

pub returns-then-branch-clause-first : goal.returns-then-branch-clause-first
returns-then-branch-clause-first c =
    search rules
