use Rattle.jdwp_across.proofs.HeldApart.{suspends-what-is-held-apart}
use Rattle.jdwp_across.proofs.apart.suspends_what_is_held_apart.Goals as goal

pub returns : goal.returns
returns g c = suspends-what-is-held-apart g.M.Machine.meaning c.of_sessions.ensures c.is_sure_of_suspended_threads_only.ensures.covered
