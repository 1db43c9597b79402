use Rattle.std.proofs.Common.{◌∙◌, sym}
use Rattle.jdwp_show.proofs.TextLemmas.{grows_refused}
use Rattle.jdwp_show.proofs.transcript.Transcript.push_packet.Goals as goal

pub returns-then-is_refused : goal.returns-then-is_refused
returns-then-is_refused c = grows_refused _ (sym c.is_refused.ensures ∙ c.if-is_refused.true)
