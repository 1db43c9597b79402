use Rattle.std.proofs.Common.{rules}
use Rattle.jdwp_layout.proofs.item.fields_of_modifier.Goals as goal

pub returns-in-4 : goal.returns-in-4
returns-in-4 c = search rules
