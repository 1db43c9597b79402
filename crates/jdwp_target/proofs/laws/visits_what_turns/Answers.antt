use Rattle.jdwp_target.proofs.Visited.{visits-turns}
use Rattle.jdwp_target.proofs.laws.visits_what_turns.Goals as goal

pub returns : goal.returns
returns g c = visits-turns g.M.Machine.meaning
