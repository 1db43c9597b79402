use Rattle.std.proofs.Common.{◌≡◌, ◌≤◌, ◌++◌, length, drop}
use Rattle.jdwp_debugger.specs.Debuggers.{tickets_of}
use Rattle.jdwp_debugger.proofs.lost.Lost.of.Given as goal

abbrev pub invariant-loop-place : goal.invariant-loop-place
invariant-loop-place l = record {
  so_far : l.lost ++ tickets_of (drop l.place l.pending) ≡ tickets_of l.pending;
  few : length l.lost ≤ l.place;
}
