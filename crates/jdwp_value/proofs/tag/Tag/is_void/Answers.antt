use Rattle.std.proofs.Common.{rules}
use Rattle.jdwp_value.proofs.tag.Tag.is_void.Goals as goal

pub returns-in-Void : goal.returns-in-Void
returns-in-Void c = search rules
