use Rattle.std.proofs.Common.{[], w32}
use Rattle.std.proofs.lemmas.Int.{to_z-of_z}
use Rattle.jdwp_client.specs.Clients.{Begins, lacks_event}
use Rattle.jdwp_client.specs.Keeping.{has_request}
use Rattle.jdwp_client.proofs.Steps.{ends-at, goes-at, no-event}
use Rattle.jdwp_client.proofs.client.Client.wait_for.Goals as goal

pub loop-made-init : goal.loop-made-init
loop-made-init g c = ([], Begins)

pub returns-in-Some-clause-ok : goal.returns-in-Some-clause-ok
returns-in-Some-clause-ok g c =
    let same = to_z-of_z w32 c.args.request c.ranges.request in
    (c.loop-made.self, (c.loop-made._made, rw same at c.loop-made.invariant), rw same at c.in-Some.ensures.0, c.in-Some.ensures.1)

pub returns-in-Err-clause-err : goal.returns-in-Err-clause-err
returns-in-Err-clause-err g c =
    let same = to_z-of_z w32 c.args.request c.ranges.request in
    ends-at g.P.Pipe.story (lacks_event (has_request c.args.request)) c.args.self.now c.loop-made._made c.loop-made.self c.take_event_of.new.self c.in-Err.error c.advance.new.self
    (rw same at c.loop-made.invariant) c.in-None.ensures.1 (no-event (has_request c.args.request) c.loop-made.self (rw same at c.in-None.ensures.0)) c.in-Err.ensures.err

pub loop-made-preserved : goal.loop-made-preserved
loop-made-preserved g c =
    let same = to_z-of_z w32 c.args.request c.ranges.request in
    rw same
    (goes-at g.P.Pipe.story (lacks_event (has_request c.args.request)) c.args.self.now c.loop-made._made c.loop-made.self c.take_event_of.new.self c.advance.new.self
    (rw same at c.loop-made.invariant) c.in-None.ensures.1 (no-event (has_request c.args.request) c.loop-made.self (rw same at c.in-None.ensures.0)) c.in-Ok.ensures.ok)
