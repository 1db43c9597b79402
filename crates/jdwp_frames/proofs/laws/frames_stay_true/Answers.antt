use Rattle.jdwp_frames.proofs.OfLinks.{frames-stay-true}
use Rattle.jdwp_frames.proofs.laws.frames_stay_true.Goals as goal

pub returns : goal.returns
returns g c = frames-stay-true g.M.Machine.meaning c.rests_on_laws.ensures
