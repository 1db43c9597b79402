use Rattle.jdwp_across.proofs.Theorems.{suspends-what-is-held}
use Rattle.jdwp_across.proofs.across.suspends_what_is_held.Goals as goal

pub returns : goal.returns
returns g c = suspends-what-is-held g.M.Machine.meaning c.holds_in_two_programs.ensures
