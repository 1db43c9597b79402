use Rattle.std.proofs.Common.{rules}
use Rattle.jdwp_value.proofs.tag.Tag.of_byte.Goals as goal

pub returns-in_default-clause-only : goal.returns-in_default-clause-only
returns-in_default-clause-only c = search rules

pub returns-in_default-clause-value : goal.returns-in_default-clause-value
returns-in_default-clause-value c = search rules
