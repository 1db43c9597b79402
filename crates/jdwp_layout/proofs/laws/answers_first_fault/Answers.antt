use Rattle.jdwp_layout.proofs.GrammarLaws.{data_blamed, data_judged}
use Rattle.jdwp_layout.proofs.laws.answers_first_fault.Goals as goal

pub returns : goal.returns
returns c = record { blamed = λ w items bytes f fits e. data_blamed w items bytes f fits e; judged = λ w items bytes f h. data_judged w items bytes f h }
