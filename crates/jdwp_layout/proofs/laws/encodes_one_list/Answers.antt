use Rattle.jdwp_layout.proofs.GrammarLaws.{data_once}
use Rattle.jdwp_layout.proofs.laws.encodes_one_list.Goals as goal

pub returns : goal.returns
returns c = λ w items xs ys code p q. data_once w items xs ys code p q
