use Rattle.std.proofs.Common.{◌≡◌, ◌++◌, take}
use Rattle.jdwp_debugger.specs.DebuggerTurns.{heads_of}
use Rattle.jdwp_debugger.proofs.heads.Heads.push_waiting.Given as goal

abbrev pub invariant-loop-waiting : goal.invariant-loop-waiting
invariant-loop-waiting l = l.self ≡ l.fn.self ++ heads_of (take l.waiting-index l.parked)
