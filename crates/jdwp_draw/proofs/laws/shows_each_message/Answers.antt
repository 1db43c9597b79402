use Rattle.jdwp_draw.proofs.ShownLemmas.{are_shown}
use Rattle.jdwp_draw.proofs.laws.shows_each_message.Goals as goal

pub returns : goal.returns
returns c = λ text. are_shown text
