use Rattle.jdwp_debuggee.proofs.Reported.{sizes_effect}
use Rattle.jdwp_debuggee.proofs.laws.answers_id_sizes.Goals as goal

pub returns : goal.returns
returns g c = sizes_effect g.M.Machine.meaning
