use Rattle.std.proofs.Common.{◌≡◌, ◌≤◌, ◌+◌, length}
use Rattle.levels.specs.Levels.{Risen, running}
use Rattle.levels.proofs.moves.rise.Given as goal

abbrev pub invariant-loop-rank : goal.invariant-loop-rank
invariant-loop-rank l = Risen l.fn.from l.fn.level l.rank l.fn.lent.entries.now.list l.fn.order.list l.lent.entries.now.list l.order.list
    × (l.lent.visits.now + running l.lent.entries.now.list ≡ running l.fn.lent.entries.now.list)
    × (l.lent.visits.now ≤ l.rank)
    × (l.rank-end ≡ length l.fn.order.list)
    × (l.lent.entries.now.capacity ≡ l.fn.lent.entries.now.capacity)
    × (l.order.capacity ≡ l.fn.order.capacity)
    × (l.lent.entries.ghost_name ≡ l.fn.lent.entries.ghost_name)
    × (l.lent.visits.ghost_name ≡ l.fn.lent.visits.ghost_name)
    × (l.lent.entries.now.looks ≡ l.fn.lent.entries.now.looks + l.lent.visits.now)
    × (l.order.looks ≡ l.fn.order.looks + l.lent.visits.now)
