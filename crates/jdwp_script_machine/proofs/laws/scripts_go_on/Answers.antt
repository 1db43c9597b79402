use Rattle.jdwp_script_machine.proofs.Beginnings.{goes_on}
use Rattle.jdwp_script_machine.proofs.laws.scripts_go_on.Goals as goal

pub returns : goal.returns
returns c = goes_on
