use Rattle.std.proofs.Common.{inl}
use Rattle.jdwp_plan_run.proofs.AskLaws.{if-err}
use Rattle.jdwp_plan_run.proofs.ExpectLaws.{held-so, held-stops, fill-stops, on-ok}
use Rattle.jdwp_plan_run.proofs.expecting.expect_held.Goals as goal

pub returns-in-Ok-clause-ok : goal.returns-in-Ok-clause-ok
returns-in-Ok-clause-ok c =
    on-ok c.expect_named.result
    (λ h. held-so c.args.values.now c.args.debugger.now _ _ c.in-Ok.full.items _ c.args.held c.as_bytes.ensures.value c.as_slice.ensures.value c.in-Ok.ensures.ok h) c.expect_named.ensures.ok

pub returns-in-Ok-clause-err : goal.returns-in-Ok-clause-err
returns-in-Ok-clause-err c =
    if-err c.expect_named.result
    (λ s h. held-stops c.args.values.now c.args.debugger.now _ _ c.in-Ok.full.items _ c.args.held s c.as_bytes.ensures.value c.as_slice.ensures.value c.in-Ok.ensures.ok h) c.expect_named.ensures.err

pub returns-in-Err-clause-err : goal.returns-in-Err-clause-err
returns-in-Err-clause-err c = inl (fill-stops c.args.values.now _ _ c.in-Err.stop c.as_bytes.ensures.value c.in-Err.ensures.err)
