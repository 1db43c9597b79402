use Rattle.jdwp_layout.proofs.GrammarLaws.{data_found}
use Rattle.jdwp_layout.proofs.laws.reads_only_encoded.Goals as goal

pub returns : goal.returns
returns c = λ w items bytes xs fits e. data_found w items bytes xs fits e
