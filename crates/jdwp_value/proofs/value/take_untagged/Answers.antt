use Rattle.std.proofs.Common.{rules}
use Rattle.jdwp_value.proofs.value.take_untagged.Goals as goal

pub returns-clause-value : goal.returns-clause-value
returns-clause-value c = search rules
