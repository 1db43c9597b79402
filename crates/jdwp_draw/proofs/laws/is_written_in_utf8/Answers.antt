use Rattle.jdwp_draw.proofs.EscapeLemmas.{written}
use Rattle.jdwp_draw.proofs.laws.is_written_in_utf8.Goals as goal

pub returns : goal.returns
returns c = λ cs. written cs
