use Rattle.std.proofs.Common.{inl, inr}
use Rattle.jdwp_plan_run.proofs.AskLaws.{if-err, if-ok, reads}
use Rattle.jdwp_plan_run.proofs.asking.data_of.Goals as goal

pub returns-in-Ok-clause-ok : goal.returns-in-Ok-clause-ok
returns-in-Ok-clause-ok c =
    if-ok c.items_of.result (λ items h. reads _ _ c.args.values.now _ c.in-Ok.full.items c.as_slice.result.now _ c.as_slice.ensures.value c.in-Ok.ensures.ok h) c.items_of.ensures.ok

pub returns-in-Ok-clause-err : goal.returns-in-Ok-clause-err
returns-in-Ok-clause-err c = if-err c.items_of.result (λ s h. inr h) c.items_of.ensures.err

pub returns-in-Err-clause-err : goal.returns-in-Err-clause-err
returns-in-Err-clause-err c = inl c.in-Err.ensures.err
