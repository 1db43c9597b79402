use Rattle.jdwp_attach.specs.Runs.{at}
use Rattle.jdwp_attach.proofs.Ending.{finished-ends}
use Rattle.jdwp_attach.proofs.attaching.run_session.Goals as goal

pub returns-in-Ok-clause-in_order : goal.returns-in-Ok-clause-in_order
returns-in-Ok-clause-in_order g c =
    let base = at (g.P.Pipe.story c.args.pipe.now) (g.W.Pipe.story c.args.out.now) c.args.debugger.now c.args.turns in
    (finished-ends c.args.plan.now base (g.P.Pipe.story c.run_plan.new.pipe) (g.W.Pipe.story c.run_plan.new.out) c.run_plan.new.debugger c.lose.new.self c.run_plan.new.run.left
    c.in-Ok.ensures.finished c.in-Ok.ensures.known c.in-Ok.ensures.answered c.lose.ensures.lost).0

pub returns-in-Ok-clause-ended : goal.returns-in-Ok-clause-ended
returns-in-Ok-clause-ended g c =
    let base = at (g.P.Pipe.story c.args.pipe.now) (g.W.Pipe.story c.args.out.now) c.args.debugger.now c.args.turns in
    (finished-ends c.args.plan.now base (g.P.Pipe.story c.run_plan.new.pipe) (g.W.Pipe.story c.run_plan.new.out) c.run_plan.new.debugger c.lose.new.self c.run_plan.new.run.left
    c.in-Ok.ensures.finished c.in-Ok.ensures.known c.in-Ok.ensures.answered c.lose.ensures.lost).1
