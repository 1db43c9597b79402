use Rattle.std.proofs.Common.{◌≡◌, ◌+◌, ◌≤◌, drop}
use Rattle.jdwp_debugger.specs.FollowingKept.{all_lowered}
use Rattle.jdwp_debugger.proofs.pending.Pending.lowered.Given as goal

abbrev pub invariant-loop-place : goal.invariant-loop-place
invariant-loop-place l = (l.lowered + all_lowered l.sizes (drop l.place l.self) l.thread.0 ≡ all_lowered l.sizes l.self l.thread.0) × (l.lowered ≤ l.place)
