use Rattle.std.proofs.Common.{rules}
use Rattle.jdwp_show.proofs.data_text.push_boolean.Goals as goal

pub returns-else-truth : goal.returns-else-truth
returns-else-truth c = search rules
