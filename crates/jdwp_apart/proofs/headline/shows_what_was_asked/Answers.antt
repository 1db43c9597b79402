use Rattle.jdwp_apart.proofs.Holds.{always_once_asked}
use Rattle.jdwp_apart.proofs.headline.shows_what_was_asked.Goals as goal

pub returns : goal.returns
returns c = always_once_asked
