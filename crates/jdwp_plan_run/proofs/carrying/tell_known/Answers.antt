use Rattle.std.specs.Prelude.{string_bytes}
use Rattle.jdwp_plan_run.proofs.RunLaws.{known, on-ok}
use Rattle.jdwp_plan_run.proofs.carrying.tell_known.Goals as goal

pub returns-in-Ok-clause-ok : goal.returns-in-Ok-clause-ok
returns-in-Ok-clause-ok g c =
    on-ok c.show_known.result
    (λ h. known c.debugger.result.now c.args.client.now c.args.run.now c.show_known.new.run (string_bytes c.in-Ok.text) (g.W.Pipe.story c.args.out.now)
    (g.W.Pipe.story c.show_known.new.out) c.debugger.ensures c.in-Ok.ensures h) c.show_known.ensures.ok
