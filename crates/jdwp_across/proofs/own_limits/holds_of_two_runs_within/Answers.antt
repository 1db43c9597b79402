use Rattle.jdwp_across.proofs.OwnTogether.{holds-of-runs-within}
use Rattle.jdwp_across.proofs.own_limits.holds_of_two_runs_within.Goals as goal

pub returns : goal.returns
returns g c = holds-of-runs-within g.M.Machine.meaning c.finds_first_message.ensures.nothing c.holds_within_own_limits.ensures
