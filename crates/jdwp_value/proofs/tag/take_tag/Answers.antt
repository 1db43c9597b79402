use Rattle.std.proofs.Common.{rules}
use Rattle.jdwp_value.proofs.tag.take_tag.Goals as goal

pub returns-in-None-clause-value : goal.returns-in-None-clause-value
returns-in-None-clause-value c = search rules
