use Rattle.std.proofs.Common.{◌≡◌, ◌≤◌}
use Rattle.std.specs.Prelude.{vec_capacity}
use Rattle.levels.specs.Levels.{Fallen}
use Rattle.levels.proofs.entries.Entries.stop_all.Given as goal

abbrev pub invariant-loop-to : goal.invariant-loop-to
invariant-loop-to l = Fallen l.fn.suspended l.to l.fn.self.list l.self-inside.list.items × (l.to ≤ l.fn.suspended) × (vec_capacity l.self-inside.list ≡ l.fn.self.capacity)
    × (l.order.list ≡ l.fn.order.list) × (l.order.capacity ≡ l.fn.order.capacity)

abbrev pub decreases-loop-to : goal.decreases-loop-to
decreases-loop-to l = l.to
