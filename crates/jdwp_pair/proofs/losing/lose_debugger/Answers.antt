use Rattle.std.proofs.Common.{IfErr, List, subst}
use Rattle.jdwp_link.specs.declared.events.Outcome.{Outcome}
use Rattle.jdwp_pair.specs.Telling.{FailsToTell, lost_text}
use Rattle.jdwp_pair.proofs.Keeping.{keeps-lost}
use Rattle.jdwp_pair.proofs.Leading.{on-ok}
use Rattle.jdwp_pair.proofs.Planned.{debugger-lost, tickets-untold}
use Rattle.jdwp_pair.proofs.losing.lose_debugger.Goals as goal

pub returns-in-Err-clause-ends : goal.returns-in-Err-clause-ends
returns-in-Err-clause-ends g c = debugger-lost g.M.Machine.meaning c.in-Err.ended c.args.link.now c.happen.new.link (g.W.Pipe.story c.args.out.now) c.in-Err.ensures.ends

pub returns-clause-ends : goal.returns-clause-ends
returns-clause-ends g c =
    let before = g.W.Pipe.story c.args.out.now in
    let after = g.W.Pipe.story c.tell_lost.new.out in
    tickets-untold g.M.Machine.meaning c.tell_lost.result c.args.link.now before c.happen.new.link after c.in-Ok.outcomes.items c.in-Ok.ensures.ok
    (subst (λ (os : List Outcome). IfErr c.tell_lost.result (λ how. FailsToTell (lost_text os) how before after)) c.deref.ensures.value c.tell_lost.ensures.ends)

pub returns-clause-follows : goal.returns-clause-follows
returns-clause-follows g c =
    on-ok c.tell_lost.result
    (λ told. keeps-lost g.M.Machine.meaning c.args.link.now c.happen.new.link c.in-Ok.outcomes.items c.args.follower.now c.lose_too.new.follower c.in-Ok.ensures.ok c.lose_too.ensures)
    c.tell_lost.ensures.tells
