use Rattle.std.proofs.Common.{◌≡◌, drop}
use Rattle.jdwp_debugger.specs.Debuggers.{has_tickets}
use Rattle.jdwp_debugger.proofs.pending.Pending.has_tickets.Given as goal

abbrev pub invariant-loop-place : goal.invariant-loop-place
invariant-loop-place l = has_tickets (drop l.place l.self) ≡ has_tickets l.self
