use Rattle.std.proofs.Common.{subst, sym}
use Rattle.jdwp_client.specs.declared.errors.ClientError.{ClientError}
use Rattle.jdwp_client.specs.Clients.{FailsToSend, Sends}
use Rattle.jdwp_debugger.specs.declared.pending.Ticket.{Ticket}
use Rattle.jdwp_client.proofs.Lists.{if-err, if-ok}
use Rattle.jdwp_client.proofs.Steps.{loses-sent, sends-by}
use Rattle.jdwp_client.proofs.client.Client.send.Goals as goal

pub returns-in-Ok-clause-ok : goal.returns-in-Ok-clause-ok
returns-in-Ok-clause-ok g c =
    if-ok c.put_under.result
    (λ given h.
    subst (λ (t : Ticket). Sends g.P.Pipe.story c.args.command t.0 c.args.self.now c.put_under.new.self) (sym h.0)
    (sends-by g.P.Pipe.story c.args.command c.in-Ok.ticket.0 c.args.self.now c.enqueue.new.self c.put_under.new.self c.in-Ok.ensures.ok h.1)) c.put_under.ensures.ok

pub returns-in-Ok-clause-err : goal.returns-in-Ok-clause-err
returns-in-Ok-clause-err g c =
    if-err c.put_under.result
    (λ e h.
    subst (λ (x : ClientError). FailsToSend g.P.Pipe.story c.args.command c.args.self.now x c.put_under.new.self) (sym h.0)
    (loses-sent g.P.Pipe.story c.args.command c.in-Ok.ticket.0 c.args.self.now c.enqueue.new.self c.put_under.new.self c.in-Ok.ensures.ok h.1)) c.put_under.ensures.err
