use Rattle.jdwp_pair.proofs.Planned.{target-lost}
use Rattle.jdwp_pair.proofs.losing.lose_target.Goals as goal

pub returns-in-Err-clause-ends : goal.returns-in-Err-clause-ends
returns-in-Err-clause-ends g c = target-lost g.M.Machine.meaning c.in-Err.ended c.args.link.now c.happen.new.link c.in-Err.ensures.ends
