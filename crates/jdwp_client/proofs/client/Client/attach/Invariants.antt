use Rattle.jdwp_client.specs.Clients.{lacks_sizes, WaitsIn}
use Rattle.jdwp_client.proofs.client.Client.attach.Given as goal

-- so many steps of the wait led to this client
abbrev pub invariant-loop-made : goal.invariant-loop-made
invariant-loop-made g l = WaitsIn g.P.Pipe.story lacks_sizes l.fn.self l._made l.self
