use Rattle.jdwp_client.specs.ClientsKept.{client_of}
use Rattle.jdwp_client.proofs.Steps.{enqueued}
use Rattle.jdwp_client.proofs.client.Client.enqueue.Goals as goal

pub returns-clause-ok : goal.returns-clause-ok
returns-clause-ok g c =
    let i = c.self.inside in
    let asked = c.in_ok-ticket.ensures.ok in
    rw (← c.self.view_is)
    (enqueued c.args.command c.in_ok-ticket.ticket (client_of i.debugger i.pipe i.kept.events.items i.kept.answers.items.items i.sent i.lost i.most_events) c.ask.new.self asked.0 asked.1 asked.2)
