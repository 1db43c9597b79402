use Rattle.jdwp_draw.proofs.EscapeLemmas.{marks_nothing}
use Rattle.jdwp_draw.proofs.laws.marks_up_nothing.Goals as goal

pub returns : goal.returns
returns c = λ cs. marks_nothing cs
