use Rattle.jdwp_judge.proofs.SessionLaws.{beginning_of, beginning_of_whole, fault_stays, fault_of_whole}
use Rattle.jdwp_judge.proofs.laws.tells_beginnings.Goals as goal

pub returns : goal.returns
returns c = record { goes_on = beginning_of; ends = beginning_of_whole; fault_goes_on = fault_stays; fault_ends = fault_of_whole }
