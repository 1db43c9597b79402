-- How the threads that a mirror knows are kept and found by their ids: each stands in a map under the number with which it became
-- known, these numbers rise, and a second map has the number of each id. Each is kept as it was when it was last written, after so many
-- moves of all counts: what it is now follows from the moves since.
use Rattle.std.specs.Prelude.{◌≡◌, ℕ, ◌==◌, ◌≤◌, List, [], ◌∷◌, ◌++◌, length, map, Option, Some, None, if◌then◌else◌}
use Rattle.std.specs.Ordering.{nat_cmp}
use Rattle.std.specs.BTreeMap.{BTreeMap, get}
use Rattle.std.specs.List.Sorted.{IsStrictlySortedBy}
use Rattle.std.specs.Map.{keys_of, values_of}
use Rattle.std.specs.Option.{option_map}
use Rattle.jdwp_value.specs.declared.id.ObjectId.{ObjectId}
use Rattle.jdwp_mirror.specs.declared.drift.Drift.{Drift}
use Rattle.jdwp_mirror.specs.declared.drift.Standing.{Standing}
use Rattle.jdwp_mirror.specs.declared.met.Met.{Met}
use Rattle.jdwp_mirror.specs.declared.threads.Change.{Change}
use Rattle.jdwp_mirror.specs.declared.threads.Change.TheVariants.{Keep, Raise, Lower, Set}
use Rattle.jdwp_mirror.specs.declared.threads.Known.{Known}
use Rattle.jdwp_mirror.specs.declared.threads.Lesson.{Lesson}
use Rattle.jdwp_mirror.specs.Drifts.{after, lowered, raised}
use Rattle.jdwp_mirror.specs.KnownThreads.{AreSound, taught_by}

-- ---- threads that moved since they were written

abbrev pub standing_of : Known → Standing
standing_of k = record { count = k.count; held = k.held }

abbrev pub with_standing : Known → Standing → Known
with_standing k s = record { id = k.id; count = s.count; held = s.held }

-- a thread as it is, where these moves of all counts were made by now
abbrev pub seen : List Drift → Met → Known
seen moves m = with_standing m.known (after moves m.time (length moves) (standing_of m.known))

abbrev pub entries_seen : List Drift → List (ℕ × Met) → List (ℕ × Known)
entries_seen moves entries = map (λ (e : ℕ × Met). (e.0, seen moves e.1)) entries

-- a thread that is written where the moves are counted anew
abbrev pub anew : Known → Met
anew known = record { known = known; time = 0 }

-- none was written after more moves than these
abbrev pub AreBefore : ℕ → List (ℕ × Met) → Type 0
AreBefore moves [] = Unit {0}
AreBefore moves (e ∷ es) = (e.1.time ≤ moves) × AreBefore moves es

-- ---- what is changed without a walk over all

-- a change of the others is one of the moves
abbrev pub HasNoted : Change → List Drift → List Drift → Type 0
HasNoted Keep old new = new ≡ old
HasNoted Raise old new = new ≡ old ++ raised ∷ []
HasNoted Lower old new = new ≡ old ++ lowered ∷ []
HasNoted (Set n) old new = ⊥

-- ---- threads under their numbers

-- a thread among them
abbrev pub known_in : List Known → ℕ → Option Known
known_in [] t = None
known_in (k ∷ ks) t = if k.id.0 == t then Some k else known_in ks t

-- the number of a thread
abbrev pub number_in : List (ℕ × Known) → ℕ → Option ℕ
number_in [] t = None
number_in (e ∷ es) t = if e.1.id.0 == t then Some e.0 else number_in es t

-- the number of the thread that a packet is about
abbrev pub own_number_in : BTreeMap ℕ ℕ → Option ObjectId → Option ℕ
own_number_in numbers None = None
own_number_in numbers (Some t) = get nat_cmp numbers t.0

-- the thread under a number as a lesson leaves it, with the number
abbrev pub taught_at : List Drift → BTreeMap ℕ Met → Lesson → Option ℕ → Option (ℕ × Known)
taught_at moves entries l None = None
taught_at moves entries l (Some n) = option_map (λ (m : Met). (n, taught_by l (seen moves m))) (get nat_cmp entries n)

pub record AreNumbered (threads : List (ℕ × Known)) (numbers : BTreeMap ℕ ℕ) : Type 0 where
  pub ordered : IsStrictlySortedBy nat_cmp (keys_of threads)
  pub found : (t : ℕ) → get nat_cmp numbers t ≡ number_in threads t

-- what holds of threads as they are kept
pub record AreKept (moves : List Drift) (entries : List (ℕ × Met)) (numbers : BTreeMap ℕ ℕ) : Type 0 where
  pub sound : AreSound (values_of (entries_seen moves entries))
  pub numbered : AreNumbered (entries_seen moves entries) numbers
  pub before : AreBefore (length moves) entries
