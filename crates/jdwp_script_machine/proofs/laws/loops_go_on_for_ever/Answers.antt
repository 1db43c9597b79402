use Rattle.jdwp_script_machine.proofs.Beginnings.{goes_on_for_ever}
use Rattle.jdwp_script_machine.proofs.laws.loops_go_on_for_ever.Goals as goal

pub returns : goal.returns
returns c = goes_on_for_ever
