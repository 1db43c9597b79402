use Rattle.jdwp_across.proofs.Meeting.{holds-after, suspends-after}
use Rattle.jdwp_across.proofs.others.holds_after_other_sessions.Goals as goal

pub returns : goal.returns
returns g c =
    let m = g.M.Machine.meaning in
    let holds = holds-after m c.of_sessions.ensures c.of_debuggees.ensures in
    record { relies = holds; suspends = suspends-after m holds }
