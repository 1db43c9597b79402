use Rattle.jdwp_target.proofs.Closing.{act-why}
use Rattle.jdwp_target.proofs.laws.closes_for_a_reason.Goals as goal

pub returns : goal.returns
returns g c = λ settings now act opened closed. act-why g.M.Machine.meaning settings now act opened closed
