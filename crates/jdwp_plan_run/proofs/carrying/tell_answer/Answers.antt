use Rattle.jdwp_plan_run.proofs.RunLaws.{on-ok}
use Rattle.jdwp_plan_run.proofs.carrying.tell_answer.Goals as goal

pub returns-in-Ok-clause-ok : goal.returns-in-Ok-clause-ok
returns-in-Ok-clause-ok g c = on-ok c.show_answer.result (λ h. (c.in-Ok.told, c.in-Ok.ensures, h.0, h.1)) c.show_answer.ensures.ok
