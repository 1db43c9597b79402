use Rattle.std.proofs.Common.{rules}
use Rattle.jdwp_show.proofs.data_text.push_element.Goals as goal

pub returns-in-Double : goal.returns-in-Double
returns-in-Double c = search rules
