use Rattle.jdwp_model.proofs.Settles.{settles_in_order}
use Rattle.jdwp_model.proofs.headline.settles_in_order.Goals as goal

pub returns : goal.returns
returns g c = settles_in_order g.M.Machine.meaning c.rests_on_laws.ensures
