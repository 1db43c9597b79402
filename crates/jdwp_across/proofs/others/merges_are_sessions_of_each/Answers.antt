use Rattle.jdwp_across.proofs.Sessions.{merges-are-sessions}
use Rattle.jdwp_across.proofs.others.merges_are_sessions_of_each.Goals as goal

pub returns : goal.returns
returns g c = merges-are-sessions g.M.Machine.meaning
