use Rattle.std.proofs.Common.{rules}
use Rattle.jdwp_value.proofs.location.take_location.Goals as goal

pub returns-in-0-clause-value : goal.returns-in-0-clause-value
returns-in-0-clause-value c =
    search rules
