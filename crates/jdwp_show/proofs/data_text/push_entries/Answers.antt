use Rattle.jdwp_show.proofs.TextLemmas.{joined}
use Rattle.jdwp_show.proofs.data_text.push_entries.Goals as goal

pub returns : goal.returns
returns c = joined c.push_str.ensures.grows (joined c.push_all_entries.ensures c.push_str-2.ensures.grows)
