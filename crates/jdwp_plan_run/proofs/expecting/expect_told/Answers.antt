use Rattle.std.proofs.Common.{inl, inr}
use Rattle.jdwp_plan_run.proofs.AskLaws.{if-err}
use Rattle.jdwp_plan_run.proofs.ExpectLaws.{on-ok}
use Rattle.jdwp_plan_run.proofs.expecting.expect_told.Goals as goal

pub returns-in-Ok-clause-ok : goal.returns-in-Ok-clause-ok
returns-in-Ok-clause-ok c = on-ok c.compare.result (λ h. (c.in-Ok.expected.items, c.in-Ok.ensures.ok, h)) c.compare.ensures.ok

pub returns-in-Ok-clause-err : goal.returns-in-Ok-clause-err
returns-in-Ok-clause-err c = if-err c.compare.result (λ s h. inr (c.in-Ok.expected.items, c.in-Ok.ensures.ok, h)) c.compare.ensures.err

pub returns-in-Err-clause-err : goal.returns-in-Err-clause-err
returns-in-Err-clause-err c = inl c.in-Err.ensures.err
