use Rattle.jdwp_apart.proofs.Frames.{always_frames, always_answers}
use Rattle.jdwp_apart.proofs.headline.shows_frames_that_stay_true.Goals as goal

pub returns : goal.returns
returns c = record { frames = always_frames; answers = always_answers }
