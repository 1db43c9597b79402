use Rattle.jdwp_across.proofs.MeetingWithin.{holds-together-after}
use Rattle.jdwp_across.proofs.others.holds_of_serve_and_attach_after_others.Goals as goal

pub returns : goal.returns
returns g c = holds-together-after g.M.Machine.meaning c.holds_of_two_runs_after_others.ensures c.serves_by_acts.ensures c.attaches_by_acts.ensures
