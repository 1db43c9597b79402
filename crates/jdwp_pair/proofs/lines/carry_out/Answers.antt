use Rattle.std.proofs.Common.{IfErr, OnOk, refl, subst, sym}
use Rattle.jdwp_model.specs.Events as events
use Rattle.jdwp_attach.specs.declared.plans.plan_line.PlanLine.{PlanLine}
use Rattle.jdwp_pair.specs.Lines.{CarriesOut, EndsLine}
use Rattle.jdwp_pair.proofs.Keeping.{aside-one}
use Rattle.jdwp_pair.proofs.Leading.{if-err, on-ok}
use Rattle.jdwp_pair.proofs.Planned.{mirror-ends}
use Rattle.jdwp_pair.proofs.lines.carry_out.Goals as goal

pub returns-in-Mirror-clause-carries : goal.returns-in-Mirror-clause-carries
returns-in-Mirror-clause-carries g c =
    let m = g.M.Machine.meaning in
    let before = g.W.Pipe.story c.args.out.now in
    let after = g.W.Pipe.story c.tell_known.new.out in
    let order = c.args.run.now.order in
    subst (λ (l : PlanLine). OnOk c.tell_known.result (CarriesOut m order l c.args.link.now before c.args.link.now after)) (sym c.in-Mirror.is)
    (on-ok c.tell_known.result (λ t. (refl, t order c.requires.followed)) c.tell_known.ensures.tells)

pub returns-in-Mirror-clause-ends : goal.returns-in-Mirror-clause-ends
returns-in-Mirror-clause-ends g c =
    let m = g.M.Machine.meaning in
    let before = g.W.Pipe.story c.args.out.now in
    let after = g.W.Pipe.story c.tell_known.new.out in
    let order = c.args.run.now.order in
    subst (λ (l : PlanLine). IfErr c.tell_known.result (λ how. EndsLine m order l c.args.place how c.args.link.now before c.args.link.now after)) (sym c.in-Mirror.is)
    (mirror-ends m order c.args.place c.tell_known.result c.args.link.now before after (if-err c.tell_known.result (λ how e. e order c.requires.followed) c.tell_known.ensures.ends))

pub returns-in-Ask-clause-followed : goal.returns-in-Ask-clause-followed
returns-in-Ask-clause-followed g c = on-ok c.ask_line.result (λ k. k c.args.run.now.order c.requires.followed) c.ask_line.ensures.follows

pub returns-in-Mirror-clause-followed : goal.returns-in-Mirror-clause-followed
returns-in-Mirror-clause-followed g c = on-ok c.tell_known.result (λ t. c.requires.followed) c.tell_known.ensures.tells

pub returns-in-LoseTarget-clause-followed : goal.returns-in-LoseTarget-clause-followed
returns-in-LoseTarget-clause-followed g c =
    on-ok c.lose_target.result
    (λ h. aside-one g.M.Machine.meaning events.TargetLoses c.args.link.now c.lose_target.new.link h.0 tt h.1 c.args.run.now.order c.args.run.now.follower c.requires.followed)
    c.lose_target.ensures.loses

pub returns-in-LoseDebugger-clause-followed : goal.returns-in-LoseDebugger-clause-followed
returns-in-LoseDebugger-clause-followed g c = on-ok c.lose_debugger.result (λ k. k c.args.run.now.order c.requires.followed) c.lose_debugger.ensures.follows
