use Rattle.std.proofs.Common.{inl, inr, refl, sym}
use Rattle.jdwp_plan_run.proofs.AskLaws.{if-err}
use Rattle.jdwp_plan_run.proofs.ExpectLaws.{on-ok}
use Rattle.jdwp_plan_run.proofs.expecting.expect_named.Goals as goal

pub returns-in-Some-clause-ok : goal.returns-in-Some-clause-ok
returns-in-Some-clause-ok c = on-ok c.expect_thread.result (λ h. (c.in-Some.thread.0, sym c.in-Some.ensures, h)) c.expect_thread.ensures.ok

pub returns-in-Some-clause-err : goal.returns-in-Some-clause-err
returns-in-Some-clause-err c = if-err c.expect_thread.result (λ s h. inr ((c.in-Some.thread.0, sym c.in-Some.ensures, h.0), h.1)) c.expect_thread.ensures.err

pub returns-in-None-clause-err : goal.returns-in-None-clause-err
returns-in-None-clause-err c = inl (sym c.in-None.ensures, refl)
