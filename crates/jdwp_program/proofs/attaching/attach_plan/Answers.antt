use Rattle.std.proofs.Common.{rules}
use Rattle.jdwp_program.proofs.attaching.attach_plan.Goals as goal

pub returns-clause-ran : goal.returns-clause-ran
returns-clause-ran g c =
    search rules
