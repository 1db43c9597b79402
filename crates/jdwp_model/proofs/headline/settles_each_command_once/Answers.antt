use Rattle.jdwp_model.proofs.Settles.{settles_once}
use Rattle.jdwp_model.proofs.headline.settles_each_command_once.Goals as goal

pub returns : goal.returns
returns g c = settles_once g.M.Machine.meaning c.rests_on_laws.ensures
