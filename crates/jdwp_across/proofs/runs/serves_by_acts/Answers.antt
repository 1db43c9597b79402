use Rattle.jdwp_across.proofs.Serving.{serves-by-acts}
use Rattle.jdwp_across.proofs.runs.serves_by_acts.Goals as goal

pub returns : goal.returns
returns g c = serves-by-acts g.M.Machine.meaning
