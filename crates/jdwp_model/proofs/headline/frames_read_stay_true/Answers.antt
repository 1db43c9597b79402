use Rattle.jdwp_model.proofs.Lasting.{always_stays_true}
use Rattle.jdwp_model.proofs.headline.frames_read_stay_true.Goals as goal

pub returns : goal.returns
returns g c = always_stays_true g.M.Machine.meaning c.rests_on_laws.ensures
