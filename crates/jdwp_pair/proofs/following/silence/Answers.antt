use Rattle.jdwp_pair.proofs.Keeping.{silenced}
use Rattle.jdwp_pair.proofs.following.silence.Goals as goal

pub returns : goal.returns
returns c = silenced c.args.debugger.now c.leave.new.self c.waiting-count.result c.waiting-count.ensures.count c.leave.ensures
