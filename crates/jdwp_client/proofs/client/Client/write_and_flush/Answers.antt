use Rattle.jdwp_client.specs.ClientsKept.{client_of}
use Rattle.jdwp_client.proofs.Steps.{puts-part}
use Rattle.jdwp_client.proofs.client.Client.write_and_flush.Goals as goal

pub returns-then-not-flush_all-clause-fails : goal.returns-then-not-flush_all-clause-fails
returns-then-not-flush_all-clause-fails g c = λ is_false.
    let i = c.self.inside in
    let all = c.write_out.ensures.all c.if-not-write_out.false in
    rw (← c.self.view_is)
    (puts-part g.P.Pipe.story (client_of i.debugger i.pipe i.kept.events.items i.kept.answers.items.items i.sent i.lost i.most_events) c.write_out.new.end c.write_out.new.pipe c.flush_all.new.pipe all.0 all.1
    (c.flush_all.ensures.fails c.if-not-flush_all.true))
