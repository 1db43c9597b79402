-- What moves of all threads make of a number that is kept of a thread: one by one, and in a row.
use Rattle.std.specs.Prelude.{◌≡◌, ℕ, ◌+◌, ◌-◌, ◌^◌, ◌≤◌, ◌<◌, nat_le, true, List, Option, Some, if◌then◌else◌}
use Rattle.std.specs.List.{fold}
use Rattle.jdwp_watch.specs.declared.bound.Bound.{Bound}
use Rattle.jdwp_watch.specs.declared.course.Counting.{Counting}
use Rattle.jdwp_watch.specs.declared.course.Counting.TheVariants.{All, Replies, Nothing, Invocations}
use Rattle.jdwp_watch.specs.declared.course.Course.{Course}
use Rattle.jdwp_watch.specs.declared.standing.Change.{Change}
use Rattle.jdwp_watch.specs.declared.standing.Change.TheVariants.{Replied, Reported, Invoked, Returned}
use Rattle.jdwp_watch.specs.Standings.{lowered, lowered_one, no_bound, raised, raised_after}

-- ---- one by one

-- what a move makes of a number for which these moves count
abbrev pub moved : Counting → Change → Bound → Bound
moved All (Replied ticket d) b = lowered ticket d.lowers (raised d.raises b)
moved All (Reported after stops named) b = raised_after after stops b
moved Replies (Replied ticket d) b = lowered ticket d.lowers (raised d.raises b)
moved Nothing (Replied ticket d) b = lowered ticket d.lowers b
moved Invocations Invoked b = raised true b
moved Invocations Returned b = lowered_one 0 b
moved k c b = b

abbrev pub moved_by : Counting → Bound → Change → Bound
moved_by k b c = moved k c b

-- what moves in a row make of it
abbrev pub ran : Counting → List Change → Bound → Bound
ran k cs b = fold (moved_by k) b cs

-- ---- in a row

abbrev pub stays : Course
stays = record { least = 0; greatest = 2 ^ 64 - 1; most = 2 ^ 64 - 1; depth = 0; rise = 0; fallen = no_bound }

abbrev pub raises : Course
raises = record stays { most = 2 ^ 64 - 2; rise = 1 }

abbrev pub lowers_at : ℕ → Course
lowers_at ticket = record stays { depth = 1; fallen = record { value = 0; base = ticket } }

-- a number that a course is for
pub record IsOn (c : Course) (b : Bound) : Type 0 where
  pub least : c.least ≤ b.base
  pub greatest : b.base ≤ c.greatest
  pub most : b.value ≤ c.most

-- what a course makes of it
abbrev pub led : Course → Bound → Bound
led c b = if nat_le c.depth b.value then record { value = (b.value - c.depth) + c.rise; base = b.base } else c.fallen

-- A course is that of moves in a row: it makes of each number that it is for what they make of it, one by one.
pub record IsCourse (k : Counting) (cs : List Change) (c : Course) : Type 0 where
  pub leads : (b : Bound) → IsOn c b → led c b ≡ ran k cs b

-- what two in a row leave of a number that falls in one of them
pub record FallsTo (first next : Course) (deeper : ℕ) (fallen : Option Bound) (after : Bound) : Type 0 where
  -- in the first, after which the second goes on
  pub early : 0 < first.depth → fallen ≡ Some after
  -- and in the second
  pub late : 0 < deeper → after ≡ next.fallen
  pub alone : first.depth ≡ 0 → after ≡ next.fallen
