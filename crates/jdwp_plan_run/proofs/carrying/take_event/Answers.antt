use Rattle.jdwp_plan_run.specs.RunsKept.{running}
use Rattle.jdwp_plan_run.proofs.RunLaws.{if-err, on-ok, print-stops-event, taken}
use Rattle.jdwp_plan_run.proofs.carrying.take_event.Goals as goal

pub returns-in-Ok-clause-ok : goal.returns-in-Ok-clause-ok
returns-in-Ok-clause-ok g c =
    on-ok c.tell_event.result
    (λ h. taken g.P.Pipe.story c.in-Ok.composite c.args.client.now c.next_event.new.client c.args.run.now c.tell_event.new.run (g.W.Pipe.story c.args.out.now)
    (g.W.Pipe.story c.tell_event.new.out) c.in-Ok.ensures.ok h) c.tell_event.ensures.ok

pub returns-in-Ok-clause-err : goal.returns-in-Ok-clause-err
returns-in-Ok-clause-err g c =
    if-err c.tell_event.result
    (λ s h. print-stops-event g.P.Pipe.story (running c.args.client.now c.args.run.now (g.W.Pipe.story c.args.out.now)) s c.next_event.new.client h) c.tell_event.ensures.err
