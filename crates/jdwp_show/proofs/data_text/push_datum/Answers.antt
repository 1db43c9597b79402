use Rattle.jdwp_show.proofs.TextLemmas.{joined}
use Rattle.jdwp_show.proofs.data_text.push_datum.Goals as goal

pub returns-in-Raw : goal.returns-in-Raw
returns-in-Raw c = rw c.in-Raw.is (rw (← c.deref-in-Raw.ensures.value) (joined c.push_str.ensures.grows c.push_hex.ensures))
