use Rattle.jdwp_apart.proofs.Holds.{always_stays}
use Rattle.jdwp_apart.proofs.headline.shows_what_stays_suspended.Goals as goal

pub returns : goal.returns
returns c = always_stays
