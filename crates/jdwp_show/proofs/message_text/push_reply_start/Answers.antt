use Rattle.jdwp_show.proofs.TextLemmas.{joined}
use Rattle.jdwp_show.proofs.message_text.push_reply_start.Goals as goal

pub returns : goal.returns
returns c = joined (joined (joined (joined (joined c.push_mark.ensures c.push_number.ensures) c.push_str.ensures.grows) c.push_name.ensures) c.push_str-2.ensures.grows) c.push_number-2.ensures
