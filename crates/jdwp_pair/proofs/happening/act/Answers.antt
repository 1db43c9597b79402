use Rattle.jdwp_link.specs.Told.{event_meaning}
use Rattle.jdwp_pair.proofs.Leading.{quiet-ends, quietly}
use Rattle.jdwp_pair.proofs.happening.act.Goals as goal

pub returns-clause-acts : goal.returns-clause-acts
returns-clause-acts g c = quietly g.M.Machine.meaning (event_meaning c.args.event) c.args.link.now c.happen.new.link _ c.session.ensures.stands c.requires c.in-Ok.ensures.ok

pub returns-in-Err-clause-ends : goal.returns-in-Err-clause-ends
returns-in-Err-clause-ends g c = quiet-ends g.M.Machine.meaning (event_meaning c.args.event) c.in-Err.ended c.args.link.now c.happen.new.link c.session.ensures.stands c.requires c.in-Err.ensures.ends
