use Rattle.std.proofs.Common.{rules}
use Rattle.jdwp_show.proofs.TextLemmas.{joined}
use Rattle.jdwp_show.proofs.data_text.push_location.Goals as goal

pub returns-in-Null : goal.returns-in-Null
returns-in-Null c = search rules

pub returns-in-At : goal.returns-in-At
returns-in-At c = rw c.in-At.is (joined (joined (joined (joined (joined (joined c.push_type_tag.ensures c.push_str-in-At.ensures.grows) c.push_id.ensures) c.push_str-in-At-2.ensures.grows) c.push_id-in-At.ensures) c.push_str-in-At-3.ensures.grows) c.push_number.ensures)
