use Rattle.std.proofs.Common.{◌≡◌, ◌≤◌, ◌<◌, ◌-◌, ℕ}
use Rattle.std.specs.Prelude.{vec_capacity}
use Rattle.levels.specs.Levels.{above, rank_at}
use Rattle.levels.proofs.order.Order.split.Given as goal

abbrev pub invariant-loop-low : goal.invariant-loop-low
invariant-loop-low l = (l.low ≤ l.high) × (l.high ≤ l.fn.end)
    × ((p : ℕ) → p < l.low → l.fn.least ≤ above l.fn.base (rank_at l.fn.self.list p).level)
    × ((p : ℕ) → l.high ≤ p → p < l.fn.end → above l.fn.base (rank_at l.fn.self.list p).level < l.fn.least)
    × (l.self-inside.ranks.items ≡ l.fn.self.list)
    × (vec_capacity l.self-inside.ranks ≡ l.fn.self.capacity)

abbrev pub decreases-loop-low : goal.decreases-loop-low
decreases-loop-low l = l.high - l.low
