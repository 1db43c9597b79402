use Rattle.std.proofs.Common.{[]}
use Rattle.jdwp_client.specs.Clients.{Begins, lacks_events}
use Rattle.jdwp_client.proofs.Steps.{ends-at, goes-at, no-events}
use Rattle.jdwp_client.proofs.client.Client.next_event.Goals as goal

pub loop-made-init : goal.loop-made-init
loop-made-init g c = ([], Begins)

pub returns-in-Some-clause-ok : goal.returns-in-Some-clause-ok
returns-in-Some-clause-ok g c = (c.loop-made.self, (c.loop-made._made, c.loop-made.invariant), c.in-Some.ensures.0, c.in-Some.ensures.1)

pub returns-in-Err-clause-err : goal.returns-in-Err-clause-err
returns-in-Err-clause-err g c =
    ends-at g.P.Pipe.story lacks_events c.args.self.now c.loop-made._made c.loop-made.self c.try_event.new.self c.in-Err.error c.advance.new.self c.loop-made.invariant c.in-None.ensures.1
    (no-events c.loop-made.self c.in-None.ensures.0) c.in-Err.ensures.err

pub loop-made-preserved : goal.loop-made-preserved
loop-made-preserved g c =
    goes-at g.P.Pipe.story lacks_events c.args.self.now c.loop-made._made c.loop-made.self c.try_event.new.self c.advance.new.self c.loop-made.invariant c.in-None.ensures.1
    (no-events c.loop-made.self c.in-None.ensures.0) c.in-Ok.ensures.ok
