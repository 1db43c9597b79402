-- What the code keeps of live threads, beside their suspend counts.
use Rattle.std.specs.Prelude.{ℕ, ◌≤◌, ◌+◌, ◌==◌, nat_lt, Bool, true, Option, Some, None, List, [], ◌∷◌, map, if◌then◌else◌}
use Rattle.std.specs.List.{list_any}
use Rattle.jdwp_debuggee.specs.declared.threads.ThreadEntry.{ThreadEntry}
use Rattle.jdwp_debuggee.specs.State.{Thread}

-- The live threads, how many of them the last move of all counts visited, and for how many there is room.
pub record LiveThreads : Type 0 where
  pub list : List Thread
  pub visits : ℕ
  pub capacity : ℕ

-- an entry and its count
abbrev pub thread_of : ThreadEntry → ℕ → Thread
thread_of entry count = record { id = entry.id.0; suspend_count = count; death_reported = entry.death_reported }

-- entries and their counts, of which there are as many
abbrev pub threads_of : List ThreadEntry → List ℕ → List Thread
threads_of [] counts = []
threads_of (entry ∷ entries) [] = thread_of entry 0 ∷ threads_of entries []
threads_of (entry ∷ entries) (count ∷ counts) = thread_of entry count ∷ threads_of entries counts

abbrev pub ids_of : List ThreadEntry → List ℕ
ids_of entries = map (λ (entry : ThreadEntry). entry.id.0) entries

-- the place of a thread among entries of which the first has this place
abbrev pub place_from : ℕ → ℕ → List ThreadEntry → Option ℕ
place_from place t [] = None
place_from place t (entry ∷ entries) = if entry.id.0 == t then Some place else place_from (place + 1) t entries

-- no suspend count is above this
abbrev pub AllAtMost : ℕ → List Thread → Type 0
AllAtMost most [] = Unit {0}
AllAtMost most (thread ∷ threads) = (thread.suspend_count ≤ most) × AllAtMost most threads

-- a live thread stands at this count
abbrev pub stands_at : ℕ → List Thread → Bool
stands_at count threads = list_any (λ (thread : Thread). thread.suspend_count == count) threads

-- the entries, one marked
abbrev pub mark_of : ℕ → ThreadEntry → ThreadEntry
mark_of t entry = if entry.id.0 == t then record entry { death_reported = true } else entry

abbrev pub all_marked : ℕ → List ThreadEntry → List ThreadEntry
all_marked t entries = map (mark_of t) entries

-- the least of an id and others
abbrev pub least_of : ℕ → List ℕ → ℕ
least_of least [] = least
least_of least (id ∷ ids) = least_of (if nat_lt id least then id else least) ids
