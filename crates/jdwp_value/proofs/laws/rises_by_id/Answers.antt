use Rattle.jdwp_value.proofs.Rising.{same-rising, rising-rises}
use Rattle.jdwp_value.proofs.laws.rises_by_id.Goals as goal

pub returns-clause-rises : goal.returns-clause-rises
returns-clause-rises g c = λ id things. rising-rises id things

pub returns-clause-same : goal.returns-clause-same
returns-clause-same g c = λ id things. same-rising id things
