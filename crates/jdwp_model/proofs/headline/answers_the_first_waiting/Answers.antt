use Rattle.jdwp_model.proofs.Faultless.{answers_first_waiting}
use Rattle.jdwp_model.proofs.headline.answers_the_first_waiting.Goals as goal

pub returns : goal.returns
returns g c = answers_first_waiting g.M.Machine.meaning c.rests_on_laws.ensures
