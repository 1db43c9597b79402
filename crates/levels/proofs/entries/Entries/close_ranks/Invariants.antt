use Rattle.std.proofs.Common.{◌≡◌, ◌≤◌, ◌<◌, ℕ, length}
use Rattle.std.specs.Prelude.{vec_capacity}
use Rattle.levels.specs.Levels.{closed_entry, entry_at}
use Rattle.levels.proofs.entries.Entries.close_ranks.Given as goal

abbrev pub invariant-loop-place : goal.invariant-loop-place
invariant-loop-place l = (length l.self-inside.list.items ≡ length l.fn.self.list)
    × ((i : ℕ) → i < l.place-counter → entry_at l.self-inside.list.items i ≡ closed_entry l.fn.gone (entry_at l.fn.self.list i))
    × ((i : ℕ) → l.place-counter ≤ i → entry_at l.self-inside.list.items i ≡ entry_at l.fn.self.list i)
    × (l.place-end ≡ length l.fn.self.list)
    × (vec_capacity l.self-inside.list ≡ l.fn.self.capacity)
