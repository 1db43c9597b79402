use Rattle.jdwp_show.proofs.TextLemmas.{joined}
use Rattle.jdwp_show.proofs.message_text.push_command_start.Goals as goal

pub returns : goal.returns
returns c = joined (joined (joined c.push_mark.ensures c.push_number.ensures) c.push_str.ensures.grows) c.push_name.ensures
