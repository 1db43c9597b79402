use Rattle.std.specs.Option.{option_map}
use Rattle.jdwp_layout.specs.Meanings.{scalar_meaning}
use Rattle.jdwp_plan_run.specs.RunsKept.{telling}
use Rattle.jdwp_plan_run.proofs.RunLaws.{if-err, no-memory-item, on-ok}
use Rattle.jdwp_plan_run.proofs.carrying.bind.Goals as goal

pub returns-in-Ok-clause-ok : goal.returns-in-Ok-clause-ok
returns-in-Ok-clause-ok c = on-ok c.bind_item.result (λ h. (scalar_meaning c.in-Ok.item, c.in-Ok.ensures.ok, h)) c.bind_item.ensures.ok

pub returns-in-Ok-clause-err : goal.returns-in-Ok-clause-err
returns-in-Ok-clause-err c = if-err c.bind_item.result (λ s h. no-memory-item c.args.path (option_map telling c.args.run.now.told) s h) c.bind_item.ensures.err
