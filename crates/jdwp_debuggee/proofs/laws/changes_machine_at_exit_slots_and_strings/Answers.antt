use Rattle.jdwp_debuggee.proofs.Plain.{kept_effect}
use Rattle.jdwp_debuggee.proofs.laws.changes_machine_at_exit_slots_and_strings.Goals as goal

pub returns : goal.returns
returns g c = kept_effect g.M.Machine.meaning
