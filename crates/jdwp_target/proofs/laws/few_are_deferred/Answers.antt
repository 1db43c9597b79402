use Rattle.jdwp_target.proofs.Deferrals.{stays-few}
use Rattle.jdwp_target.proofs.laws.few_are_deferred.Goals as goal

pub returns : goal.returns
returns g c = stays-few g.M.Machine.meaning
