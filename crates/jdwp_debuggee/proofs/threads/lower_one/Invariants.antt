use Rattle.std.proofs.Common.{◌≡◌}
use Rattle.levels.specs.Counts.{lowered}
use Rattle.jdwp_debuggee.proofs.EntryLists.{IsMoved}
use Rattle.jdwp_debuggee.proofs.threads.lower_one.Given as goal

abbrev pub invariant-loop-place : goal.invariant-loop-place
invariant-loop-place l = IsMoved lowered l.thread.0 l.place l.entries l.initial.counts.counts l.counts.counts × (l.counts.visits ≡ l.initial.counts.visits)
