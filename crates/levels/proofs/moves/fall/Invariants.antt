use Rattle.std.proofs.Common.{◌≡◌, ◌≤◌, ◌<◌, ◌+◌, ℕ}
use Rattle.levels.specs.Levels.{Fallen, at_base, rank_at}
use Rattle.levels.proofs.moves.fall.Given as goal

abbrev pub invariant-loop-to : goal.invariant-loop-to
invariant-loop-to l = Fallen l.fn.from l.to l.fn.lent.entries.now.list l.lent.entries.now.list
    × (l.lent.visits.now + at_base l.fn.base l.lent.entries.now.list ≡ at_base l.fn.base l.fn.lent.entries.now.list)
    × (l.lent.visits.now + l.to ≤ l.fn.from)
    × ((p : ℕ) → l.to ≤ p → p < l.fn.from → (rank_at l.fn.order.list p).level ≡ l.fn.base)
    × (l.lent.entries.now.capacity ≡ l.fn.lent.entries.now.capacity)
    × (l.lent.entries.ghost_name ≡ l.fn.lent.entries.ghost_name)
    × (l.lent.visits.ghost_name ≡ l.fn.lent.visits.ghost_name)
    × (l.lent.entries.now.looks ≡ l.fn.lent.entries.now.looks + l.lent.visits.now)
    × (l.order.looks ≡ l.fn.order.looks + l.lent.visits.now)
    × (l.order.list ≡ l.fn.order.list)
    × (l.order.capacity ≡ l.fn.order.capacity)

abbrev pub decreases-loop-to : goal.decreases-loop-to
decreases-loop-to l = l.to
