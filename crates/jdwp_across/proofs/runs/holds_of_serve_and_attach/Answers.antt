use Rattle.jdwp_across.proofs.Together.{holds-together}
use Rattle.jdwp_across.proofs.runs.holds_of_serve_and_attach.Goals as goal

pub returns : goal.returns
returns g c = holds-together g.M.Machine.meaning c.holds_of_two_runs.ensures c.serves_by_acts.ensures c.attaches_by_acts.ensures
