use Rattle.jdwp_across.proofs.Theorems.{holds-across}
use Rattle.jdwp_across.proofs.across.holds_in_two_programs.Goals as goal

pub returns : goal.returns
returns g c = holds-across g.M.Machine.meaning c.of_sessions.ensures c.settles_each_command_once.ensures c.tells_what_was_given.ensures.told
