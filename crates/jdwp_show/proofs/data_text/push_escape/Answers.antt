use Rattle.jdwp_show.proofs.TextLemmas.{joined}
use Rattle.jdwp_show.proofs.data_text.push_escape.Goals as goal

pub returns : goal.returns
returns c = joined c.push_str.ensures.grows (joined c.push_hex_digit.ensures c.push_hex_digit-2.ensures)
