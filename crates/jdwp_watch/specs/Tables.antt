-- What is kept of each thread: a thread that was named is kept as it was when it was last written, and moves of all threads are noted.
use Rattle.std.specs.Prelude.{◌≡◌, ℕ, ◌==◌, ◌≤◌, List, length, map, drop, fold, Bool, false, Option, Some, None, unwrap_or, if◌then◌else◌}
use Rattle.std.specs.Ordering.{nat_cmp}
use Rattle.std.specs.BTreeMap.{BTreeMap, get, is_at}
use Rattle.std.specs.Map.{lookup, keys_of}
use Rattle.jdwp_value.specs.declared.id.ObjectId.{ObjectId}
use Rattle.jdwp_event.specs.Told.{object_id}
use Rattle.jdwp_watch.specs.declared.standing.Standing.{Standing}
use Rattle.jdwp_watch.specs.declared.standing.Change.{Change}
use Rattle.jdwp_watch.specs.declared.standings.Met.{Met}
use Rattle.jdwp_watch.specs.Standings.{changed}

-- What is known of the threads that were named, by their ids, and of each other thread.
pub record Table : Type 0 where
  pub threads : List (ℕ × Standing)
  pub others : Standing

abbrev pub at : Table → ℕ → Standing
at table t = unwrap_or (lookup (is_at (nat_cmp t)) table.threads) table.others

-- the threads that were named
abbrev pub named : Table → List ObjectId
named table = map object_id (keys_of table.threads)

abbrev pub is_of : Option ObjectId → ℕ → Bool
is_of None t = false
is_of (Some u) t = u.0 == t

abbrev pub change_for : Option ObjectId → Change → Change → ℕ → Change
change_for thread own others t = if is_of thread t then own else others

-- ---- as it is kept

abbrev pub changed_by : Standing → Change → Standing
changed_by s m = changed m s

abbrev pub seen : List Change → Met → Standing
seen moves m = fold changed_by m.standing (drop m.time moves)

abbrev pub threads_seen : List Change → List (ℕ × Met) → List (ℕ × Standing)
threads_seen moves entries = map (λ (e : ℕ × Met). (e.0, seen moves e.1)) entries

-- a thread as it is, where the moves are counted anew
abbrev pub anew : List Change → Met → Met
anew moves m = record { standing = seen moves m; time = 0 }

-- none was written after more moves than these
abbrev pub AreBefore : List Change → BTreeMap ℕ Met → Type 0
AreBefore moves entries = (t : ℕ) (m : Met) → get nat_cmp entries t ≡ Some m → m.time ≤ length moves
