use Rattle.std.proofs.Common.{rules}
use Rattle.jdwp_value.proofs.tag.Tag.byte.Goals as goal

pub returns-in-Object : goal.returns-in-Object
returns-in-Object c = search rules
