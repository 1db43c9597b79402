use Rattle.jdwp_model.specs.Headline.{CountIsAtMost}
use Rattle.jdwp_model.proofs.Theorems.{always, count_is_at_most}
use Rattle.jdwp_model.proofs.headline.counts_at_most.Goals as goal

pub returns : goal.returns
returns g c = always g.M.Machine.meaning c.rests_on_laws.ensures CountIsAtMost (count_is_at_most g.M.Machine.meaning)
