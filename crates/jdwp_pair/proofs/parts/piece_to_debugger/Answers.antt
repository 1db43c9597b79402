use Rattle.std.proofs.Common.{[]}
use Rattle.jdwp_pair.specs.Events.{piece}
use Rattle.jdwp_pair.proofs.Keeping.{keeps-fed}
use Rattle.jdwp_pair.proofs.Leading.{moves-none}
use Rattle.jdwp_pair.proofs.parts.piece_to_debugger.Goals as goal

pub returns-in-Err-clause-ends : goal.returns-in-Err-clause-ends
returns-in-Err-clause-ends g c = (tt, moves-none g.M.Machine.meaning c.args.link.now)

pub returns-in-Ok-act-clause-follows : goal.returns-in-Ok-act-clause-follows
returns-in-Ok-act-clause-follows g c =
    keeps-fed g.M.Machine.meaning piece c.args.link.now c.act.new.link [] c.args.follower.now c.feed_too.new.follower c.in-Ok-act.ensures.acts c.in-Ok.ensures
