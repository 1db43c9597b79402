use Rattle.jdwp_client.specs.Clients.{lacks_event, WaitsIn}
use Rattle.jdwp_client.specs.Keeping.{has_request}
use Rattle.jdwp_client.proofs.client.Client.wait_for.Given as goal

-- so many steps of the wait led to this client
abbrev pub invariant-loop-made : goal.invariant-loop-made
invariant-loop-made g l = WaitsIn g.P.Pipe.story (lacks_event (has_request l.fn.request)) l.fn.self l._made l.self
