use Rattle.std.proofs.Common.{◌≡◌, drop}
use Rattle.jdwp_debugger.specs.Debuggers.{at_place, unanswered}
use Rattle.jdwp_debugger.proofs.pending.Pending.unanswered_at.Given as goal

abbrev pub invariant-loop-next : goal.invariant-loop-next
invariant-loop-next l = at_place (unanswered (drop l.next l.self)) l.left ≡ at_place (unanswered l.self) l.place
