use Rattle.std.proofs.Common.{◌≡◌, ◌≤◌, ◌<◌, ℕ, length}
use Rattle.std.specs.Prelude.{vec_capacity}
use Rattle.levels.specs.Levels.{closed_rank, rank_at}
use Rattle.levels.proofs.order.Order.close_places.Given as goal

abbrev pub invariant-loop-rank : goal.invariant-loop-rank
invariant-loop-rank l = (length l.self-inside.ranks.items ≡ length l.fn.self.list)
    × ((p : ℕ) → p < l.rank-counter → rank_at l.self-inside.ranks.items p ≡ closed_rank l.fn.gone (rank_at l.fn.self.list p))
    × ((p : ℕ) → l.rank-counter ≤ p → rank_at l.self-inside.ranks.items p ≡ rank_at l.fn.self.list p)
    × (l.rank-end ≡ length l.fn.self.list)
    × (vec_capacity l.self-inside.ranks ≡ l.fn.self.capacity)
