use Rattle.jdwp_pair.proofs.Taking.{takes-no-less}
use Rattle.jdwp_pair.proofs.laws.takes_what_the_first_takes.Goals as goal

pub returns : goal.returns
returns c = takes-no-less
