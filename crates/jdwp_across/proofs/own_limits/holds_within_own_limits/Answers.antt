use Rattle.jdwp_across.proofs.Within.{holds-within}
use Rattle.jdwp_across.proofs.own_limits.holds_within_own_limits.Goals as goal

pub returns : goal.returns
returns g c = holds-within g.M.Machine.meaning c.of_sessions.ensures c.settles_each_command_once.ensures c.tells_what_was_given.ensures.told
