use Rattle.std.proofs.Common.{rules}
use Rattle.jdwp_program.proofs.values.decimal.Goals as goal

pub returns : goal.returns
returns c =
    search rules
