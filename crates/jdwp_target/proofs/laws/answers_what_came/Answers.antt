use Rattle.jdwp_target.proofs.Deferrals.{answers-what-came}
use Rattle.jdwp_target.proofs.laws.answers_what_came.Goals as goal

pub returns : goal.returns
returns g c = answers-what-came g.M.Machine.meaning
