use Rattle.jdwp_layout.proofs.GrammarLaws.{data_again}
use Rattle.jdwp_layout.proofs.laws.reads_what_is_encoded.Goals as goal

pub returns : goal.returns
returns c = λ w items xs code s. data_again w items code xs s
