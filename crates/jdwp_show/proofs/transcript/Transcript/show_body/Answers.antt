use Rattle.jdwp_show.proofs.TextLemmas.{joined}
use Rattle.jdwp_show.proofs.transcript.Transcript.show_body.Goals as goal

pub returns : goal.returns
returns c = joined c.push_sound_body.ensures c.push_str.ensures.grows
