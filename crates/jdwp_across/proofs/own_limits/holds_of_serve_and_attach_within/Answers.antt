use Rattle.jdwp_across.proofs.OwnTogether.{holds-together-within}
use Rattle.jdwp_across.proofs.own_limits.holds_of_serve_and_attach_within.Goals as goal

pub returns : goal.returns
returns g c = holds-together-within g.M.Machine.meaning c.holds_of_two_runs_within.ensures c.serves_by_acts.ensures c.attaches_by_acts.ensures
