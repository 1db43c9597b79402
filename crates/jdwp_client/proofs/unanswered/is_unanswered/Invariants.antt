use Rattle.std.proofs.Common.{◌≡◌, drop}
use Rattle.std.specs.Prelude.{◌==◌}
use Rattle.std.specs.List.{list_any}
use Rattle.jdwp_debugger.specs.Debuggers.{Unanswered, unanswered}
use Rattle.jdwp_client.proofs.unanswered.is_unanswered.Given as goal

-- one is under the ticket, where one from this place on is
abbrev pub invariant-loop-place : goal.invariant-loop-place
invariant-loop-place l =
    list_any (λ (u : Unanswered). u.ticket == l.ticket.0) (drop l.place (unanswered l.debugger.pending))
    ≡ list_any (λ (u : Unanswered). u.ticket == l.ticket.0) (unanswered l.debugger.pending)
