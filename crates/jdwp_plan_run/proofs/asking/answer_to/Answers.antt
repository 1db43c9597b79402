use Rattle.std.proofs.Common.{inl}
use Rattle.jdwp_plan_run.proofs.AskLaws.{if-err, if-ok, line-stops}
use Rattle.jdwp_plan_run.proofs.asking.answer_to.Goals as goal

pub returns-in-Ok-clause-ok : goal.returns-in-Ok-clause-ok
returns-in-Ok-clause-ok g c =
    if-ok c.ask_line.result
    (λ answer h. record { sizes = c.in-Ok.sizes; ready = c.attach.new.client; begins = c.in-Ok.ensures.ok; command = h.0; says = h.1; answers = h.2 }) c.ask_line.ensures.ok

pub returns-in-Ok-clause-err : goal.returns-in-Ok-clause-err
returns-in-Ok-clause-err g c = if-err c.ask_line.result (λ e h. line-stops _ _ _ _ _ _ e c.in-Ok.sizes _ c.attach.new.client _ c.in-Ok.ensures.ok h) c.ask_line.ensures.err

pub returns-in-Err-clause-err : goal.returns-in-Err-clause-err
returns-in-Err-clause-err g c = inl c.in-Err.ensures.err
