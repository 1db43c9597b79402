use Rattle.jdwp_layout.proofs.GrammarLaws.{data_unrefused}
use Rattle.jdwp_layout.proofs.laws.writes_what_is_encoded.Goals as goal

pub returns : goal.returns
returns c = λ w items xs code s. data_unrefused w items code xs s
