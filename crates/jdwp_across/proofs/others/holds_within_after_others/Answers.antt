use Rattle.jdwp_across.proofs.MeetingWithin.{holds-within-after}
use Rattle.jdwp_across.proofs.others.holds_within_after_others.Goals as goal

pub returns : goal.returns
returns g c = holds-within-after g.M.Machine.meaning c.of_sessions.ensures c.of_debuggees.ensures
