use Rattle.jdwp_across.proofs.MeetingWithin.{holds-of-runs-after}
use Rattle.jdwp_across.proofs.others.holds_of_two_runs_after_others.Goals as goal

pub returns : goal.returns
returns g c = holds-of-runs-after g.M.Machine.meaning c.finds_first_message.ensures.nothing c.holds_within_after_others.ensures
