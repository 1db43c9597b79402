use Rattle.jdwp_pair.proofs.Planned.{first-loss, second-loss}
use Rattle.jdwp_pair.proofs.losing.lose_both.Goals as goal

pub returns-in-Err-clause-loses : goal.returns-in-Err-clause-loses
returns-in-Err-clause-loses g c =
    first-loss g.M.Machine.meaning c.in-Err.ended c.args.link.now (g.W.Pipe.story c.args.out.now) c.lose_debugger.new.link (g.W.Pipe.story c.lose_debugger.new.out) c.in-Err.ensures.ends

pub returns-in-Ok-lose_target-clause-loses : goal.returns-in-Ok-lose_target-clause-loses
returns-in-Ok-lose_target-clause-loses g c = (c.lose_debugger.new.link, c.in-Ok.ensures.loses, c.in-Ok-lose_target.ensures.loses)

pub returns-in-Err-lose_target-clause-loses : goal.returns-in-Err-lose_target-clause-loses
returns-in-Err-lose_target-clause-loses g c =
    second-loss g.M.Machine.meaning c.in-Err-lose_target.ended c.args.link.now c.lose_debugger.new.link (g.W.Pipe.story c.args.out.now) c.lose_target.new.link (g.W.Pipe.story c.lose_debugger.new.out) c.in-Ok.ensures.loses
    c.in-Err-lose_target.ensures.ends
