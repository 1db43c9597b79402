use Rattle.jdwp_draw.proofs.EscapeLemmas.{all_back}
use Rattle.jdwp_draw.proofs.laws.reads_back.Goals as goal

pub returns : goal.returns
returns c = λ cs. all_back cs
