use Rattle.jdwp_pair.proofs.Keeping.{begins-anew}
use Rattle.jdwp_pair.proofs.following.begin_anew.Goals as goal

pub returns : goal.returns
returns c = begins-anew c.args.debugger.now c.lose.new.self c.attach.new.self c.attach.result c.lose.ensures.lost c.attach.ensures.when c.attach.ensures.attached
