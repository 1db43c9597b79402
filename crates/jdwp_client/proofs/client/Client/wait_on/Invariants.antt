use Rattle.jdwp_client.specs.Clients.{lacks_answer, WaitsIn}
use Rattle.jdwp_client.proofs.client.Client.wait_on.Given as goal

-- so many steps of the wait led to this client
abbrev pub invariant-loop-made : goal.invariant-loop-made
invariant-loop-made g l = WaitsIn g.P.Pipe.story (lacks_answer l.fn.ticket.0) l.fn.self l._made l.self
