use Rattle.std.proofs.Common.{rules}
use Rattle.jdwp_show.proofs.data_text.push_in_quotes.Goals as goal

pub returns-in_default : goal.returns-in_default
returns-in_default c = search rules
