use Rattle.jdwp_debuggee.proofs.Plain.{plain_effect}
use Rattle.jdwp_debuggee.proofs.laws.leaves_state_at_plain_commands.Goals as goal

pub returns : goal.returns
returns g c = plain_effect g.M.Machine.meaning
