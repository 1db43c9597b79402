-- The threads that a mirror knows, as lists: look-ups by a thread's id, and what is changed, left out and added.
use Rattle.std.specs.Prelude.{◌≡◌, ℕ, ◌==◌, Bool, false, ◌||◌, ◌&&◌, not, List, [], ◌∷◌, ◌++◌, map, Option, Some, None, IfSome, is_some, if◌then◌else◌}
use Rattle.std.specs.List.{filter}
use Rattle.std.specs.Option.{option_to_list}
use Rattle.jdwp_value.specs.declared.id.ObjectId.{ObjectId}
use Rattle.jdwp_mirror.specs.declared.threads.Known.{Known}
use Rattle.jdwp_mirror.specs.declared.threads.Change.{Change}
use Rattle.jdwp_mirror.specs.declared.threads.Change.TheVariants.{Keep, Raise, Lower, Set}
use Rattle.jdwp_mirror.specs.declared.threads.Lesson.{Lesson}
use Rattle.jdwp_mirror.specs.Mirror.{one_more, one_less}

-- the count of a thread, or none where it is not known
abbrev pub count_in : List Known → ℕ → Option ℕ
count_in [] t = None
count_in (k ∷ ks) t = if k.id.0 == t then Some k.count else count_in ks t

-- whether a thread is held
abbrev pub is_held_in : List Known → ℕ → Bool
is_held_in [] t = false
is_held_in (k ∷ ks) t = if k.id.0 == t then k.held else is_held_in ks t

-- ---- what is done to all of them

abbrev pub change_of : Change → ℕ → ℕ
change_of Keep n = n
change_of Raise n = one_more n
change_of Lower n = one_less n
change_of (Set m) n = m

-- whether it is this thread's id
abbrev pub is_of_id : Option ObjectId → ℕ → Bool
is_of_id None t = false
is_of_id (Some u) t = u.0 == t

abbrev pub count_by : Lesson → ℕ → ℕ → ℕ
count_by l t n = if is_of_id l.thread t then change_of l.own n else change_of l.others n

abbrev pub shown_by : Lesson → ℕ → Bool
shown_by l t = l.shows_all || is_of_id l.thread t

-- its count changed, and held where that is above 0 and it is shown alive or was held before
abbrev pub taught_by : Lesson → Known → Known
taught_by l k = record {
  id = k.id;
  count = count_by l k.id.0 k.count;
  held = not (count_by l k.id.0 k.count == 0) && (shown_by l k.id.0 || k.held);
}

abbrev pub all_taught : Lesson → List Known → List Known
all_taught l ks = map (taught_by l) ks

-- ---- which of them there are

-- all but one
abbrev pub is_other : ℕ → Known → Bool
is_other t k = not (k.id.0 == t)

abbrev pub without : ℕ → List Known → List Known
without t ks = filter (is_other t) ks

-- those that a test passes
abbrev pub only : (ℕ → Bool) → List Known → List Known
only test ks = filter (λ (k : Known). test k.id.0) ks

-- a thread of which nothing is known yet
abbrev pub unseen_thread : ObjectId → Known
unseen_thread t = record { id = t; count = 0; held = false }

-- this thread among them
abbrev pub with_thread : ObjectId → List Known → List Known
with_thread t ks = if is_some (count_in ks t.0) then ks else ks ++ unseen_thread t ∷ []

-- a thread was named, and it is not known
abbrev pub IsOfUnknown : List Known → Option ℕ → Type 0
IsOfUnknown ks None = ⊥
IsOfUnknown ks (Some t) = count_in ks t ≡ None

-- ---- in which order they stand

abbrev pub ids_of : List Known → List ℕ
ids_of ks = map (λ (k : Known). k.id.0) ks

abbrev pub is_known_in : List Known → ℕ → Bool
is_known_in ks t = is_some (count_in ks t)

-- Those that are still known stand in the order in which they stood, and behind them at most one that was not known.
pub record KeepsOrder (old new : List Known) : Type 0 where
  pub met : Option ℕ
  pub ids : ids_of new ≡ filter (is_known_in new) (ids_of old) ++ option_to_list met
  pub unknown : IfSome met (λ t. count_in old t ≡ None)

-- ---- what holds of them

-- each is known once
abbrev pub AreDistinct : List Known → Type 0
AreDistinct [] = Unit {0}
AreDistinct (k ∷ ks) = (count_in ks k.id.0 ≡ None) × AreDistinct ks

-- what is held has a count above 0
abbrev pub HeldHaveCounts : List Known → Type 0
HeldHaveCounts [] = Unit {0}
HeldHaveCounts (k ∷ ks) = (k.held ≡ (not (k.count == 0) && k.held)) × HeldHaveCounts ks

pub record AreSound (ks : List Known) : Type 0 where
  pub distinct : AreDistinct ks
  pub counted : HeldHaveCounts ks
