use Rattle.jdwp_across.proofs.Together.{holds-of-runs}
use Rattle.jdwp_across.proofs.runs.holds_of_two_runs.Goals as goal

pub returns : goal.returns
returns g c = holds-of-runs g.M.Machine.meaning c.finds_first_message.ensures.nothing c.holds_in_two_programs.ensures
