use Rattle.std.proofs.Common.{◌≡◌, ◌-◌, drop}
use Rattle.jdwp_debugger.specs.DebuggerTurns.{is_next}
use Rattle.jdwp_debugger.proofs.pending.Pending.is_next.Given as goal

abbrev pub invariant-loop-earlier : goal.invariant-loop-earlier
invariant-loop-earlier l = is_next (l.place - l.earlier) (drop l.earlier l.self) ≡ is_next l.place l.self
