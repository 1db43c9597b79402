use Rattle.jdwp_across.proofs.Attaching.{attaches-by-acts}
use Rattle.jdwp_across.proofs.runs.attaches_by_acts.Goals as goal

pub returns : goal.returns
returns g c = attaches-by-acts g.M.Machine.meaning
