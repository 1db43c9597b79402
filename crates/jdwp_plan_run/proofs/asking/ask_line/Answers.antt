use Rattle.std.proofs.Common.{inl, inr, refl}
use Rattle.jdwp_plan_run.proofs.AskLaws.{if-err, if-ok}
use Rattle.jdwp_plan_run.proofs.asking.ask_line.Goals as goal

pub returns-in-Ok-clause-ok : goal.returns-in-Ok-clause-ok
returns-in-Ok-clause-ok g c = if-ok c.ask_command.result (λ answer h. (c.in-Ok.command, c.in-Ok.ensures.ok, h)) c.ask_command.ensures.ok

pub returns-in-Ok-clause-err : goal.returns-in-Ok-clause-err
returns-in-Ok-clause-err g c = if-err c.ask_command.result (λ e h. inr (c.in-Ok.command, c.in-Ok.ensures.ok, h)) c.ask_command.ensures.err

pub returns-in-Err-clause-err : goal.returns-in-Err-clause-err
returns-in-Err-clause-err g c = inl (c.in-Err.ensures.err, refl)
