use Rattle.jdwp_show.proofs.TextLemmas.{joined}
use Rattle.jdwp_show.proofs.data_text.push_id.Goals as goal

pub returns : goal.returns
returns c = joined c.push_str.ensures.grows c.push_number.ensures
