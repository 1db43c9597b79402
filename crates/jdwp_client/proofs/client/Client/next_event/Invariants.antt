use Rattle.jdwp_client.specs.Clients.{lacks_events, WaitsIn}
use Rattle.jdwp_client.proofs.client.Client.next_event.Given as goal

-- so many steps of the wait led to this client
abbrev pub invariant-loop-made : goal.invariant-loop-made
invariant-loop-made g l = WaitsIn g.P.Pipe.story lacks_events l.fn.self l._made l.self
