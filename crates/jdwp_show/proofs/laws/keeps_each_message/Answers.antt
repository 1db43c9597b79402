use Rattle.jdwp_show.proofs.ItemLaws.{each_kept}
use Rattle.jdwp_show.proofs.laws.keeps_each_message.Goals as goal

pub returns : goal.returns
returns c = λ capture sender. each_kept capture sender
