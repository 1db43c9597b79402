use Rattle.std.proofs.Common.{[], refl, sym}
use Rattle.jdwp_client.specs.Clients.{Begins, lacks_sizes}
use Rattle.jdwp_client.proofs.Steps.{ends-at, goes-at, no-sizes}
use Rattle.jdwp_client.proofs.client.Client.attach.Goals as goal

pub loop-made-init : goal.loop-made-init
loop-made-init g c = ([], Begins)

pub returns-in-Some-clause-ok : goal.returns-in-Some-clause-ok
returns-in-Some-clause-ok g c = ((c.loop-made._made, c.loop-made.invariant), sym c.in-Some.ensures)

pub returns-in-Err-clause-err : goal.returns-in-Err-clause-err
returns-in-Err-clause-err g c =
    ends-at g.P.Pipe.story lacks_sizes c.args.self.now c.loop-made._made c.loop-made.self c.loop-made.self c.in-Err.error c.advance.new.self c.loop-made.invariant refl
    (no-sizes c.loop-made.self c.in-None.ensures) c.in-Err.ensures.err

pub loop-made-preserved : goal.loop-made-preserved
loop-made-preserved g c =
    goes-at g.P.Pipe.story lacks_sizes c.args.self.now c.loop-made._made c.loop-made.self c.loop-made.self c.advance.new.self c.loop-made.invariant refl
    (no-sizes c.loop-made.self c.in-None.ensures) c.in-Ok.ensures.ok
