use Rattle.std.proofs.Common.{inl}
use Rattle.jdwp_client.proofs.Lists.{if-err, if-ok}
use Rattle.jdwp_client.proofs.Steps.{asks-for, fails-to-ask}
use Rattle.jdwp_client.proofs.client.Client.ask.Goals as goal

pub returns-in-Err-clause-err : goal.returns-in-Err-clause-err
returns-in-Err-clause-err g c = inl c.in-Err.ensures.err

pub returns-in-Ok-clause-ok : goal.returns-in-Ok-clause-ok
returns-in-Ok-clause-ok g c =
    if-ok c.wait_on.result
    (λ answer h. asks-for g.P.Pipe.story c.args.command c.in-Ok.ticket.0 c.args.self.now c.send.new.self answer c.wait_on.new.self c.in-Ok.ensures.ok h) c.wait_on.ensures.ok

pub returns-in-Ok-clause-err : goal.returns-in-Ok-clause-err
returns-in-Ok-clause-err g c =
    if-err c.wait_on.result
    (λ e h. fails-to-ask g.P.Pipe.story c.args.command c.in-Ok.ticket.0 c.args.self.now c.send.new.self e c.wait_on.new.self c.in-Ok.ensures.ok h) c.wait_on.ensures.err
