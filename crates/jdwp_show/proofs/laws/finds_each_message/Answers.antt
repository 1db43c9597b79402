use Rattle.jdwp_show.proofs.FoundLaws.{found_are_in, found_only}
use Rattle.jdwp_show.proofs.laws.finds_each_message.Goals as goal

pub returns : goal.returns
returns c = record { found = λ bytes fits. found_are_in bytes fits; only = λ bytes things are. found_only bytes things are }
