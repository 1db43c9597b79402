use Rattle.std.proofs.Common.{◌≡◌, ◌≤◌, replicate}
use Rattle.levels.proofs.counts.Counts.new.Given as goal

abbrev pub invariant-loop : goal.invariant-loop
invariant-loop l =
    (l.counts.counts ≡ replicate l.counter 0) × (l.counts.visits ≡ 0) × (l.counter ≤ l.fn.count) × (l.fn.count ≤ l.counts.capacity)
