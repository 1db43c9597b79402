use Rattle.jdwp_show.proofs.TextLemmas.{joined}
use Rattle.jdwp_show.proofs.composite_text.push_events.Goals as goal

pub returns : goal.returns
returns c = joined c.push_str.ensures.grows (joined c.push_all_events.ensures c.push_str-2.ensures.grows)
