use Rattle.jdwp_show.proofs.StandingLaws.{each_stands}
use Rattle.jdwp_show.proofs.laws.stands_in_its_line.Goals as goal

pub returns : goal.returns
returns c = λ capture earlier later item e. each_stands capture earlier later item e
