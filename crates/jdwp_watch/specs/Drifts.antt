-- Moves of all threads: what they make of what is known of one of them, in a row.
use Rattle.std.specs.Prelude.{◌≡◌, ℕ, ◌+◌, ◌-◌, ◌^◌, ◌≤◌, ◌<◌, suc, List, length, map, take, drop, get_or, Some, None, IfSome}
use Rattle.std.specs.List.{fold}
use Rattle.jdwp_watch.specs.declared.bound.Bound.{Bound}
use Rattle.jdwp_watch.specs.declared.course.Counting.{Counting}
use Rattle.jdwp_watch.specs.declared.course.Counting.TheVariants.{All, Replies, Nothing, Invocations}
use Rattle.jdwp_watch.specs.declared.course.Course.{Course}
use Rattle.jdwp_watch.specs.declared.drift.Drift.{Drift}
use Rattle.jdwp_watch.specs.declared.drift.Span.{Span}
use Rattle.jdwp_watch.specs.declared.moves.Step.{Step}
use Rattle.jdwp_watch.specs.declared.standing.Change.{Change}
use Rattle.jdwp_watch.specs.declared.standing.Change.TheVariants.{Keep}
use Rattle.jdwp_watch.specs.declared.standing.Knows.{Knows}
use Rattle.jdwp_watch.specs.declared.standing.Knows.TheVariants.{Unseen, Counted, Named}
use Rattle.jdwp_watch.specs.declared.standing.Standing.{Standing}
use Rattle.jdwp_watch.specs.Courses.{IsCourse, lowers_at, raises, ran, stays}
use Rattle.jdwp_watch.specs.Tables.{changed_by}

-- ---- which moves count

-- that these moves count for the bounds of a thread, by what is known of its life
abbrev pub Counts : Span → Knows → Counting → Type 0
Counts d Unseen Nothing = 0 < d.before
Counts d (Named since) All = since < d.before
Counts d (Counted since) All = (since < d.before) × (since ≤ d.upto)
Counts d (Counted since) Replies = (since < d.before) × (d.past ≤ since)
Counts d k counting = ⊥

-- an invocation that was not answered lowers a count by one, and has no base
abbrev pub waiting : ℕ → Bound
waiting n = record { value = n; base = 0 }

-- what moves in a row make of a thread for whose bounds these count
abbrev pub standing_by : Counting → List Change → Standing → Standing
standing_by k cs s = record {
  told = ran k cs s.told;
  recounted = ran k cs s.recounted;
  knows = s.knows;
  invoked = (ran Invocations cs (waiting s.invoked)).value;
}

-- A drift tells what moves in a row make of a thread.
pub record Follows (cs : List Change) (d : Drift) : Type 0 where
  pub counts : (s : Standing) (k : Counting) → Counts d.span s.knows k → fold changed_by s cs ≡ standing_by k cs s
  pub early : IfSome d.early (IsCourse All cs)
  pub late : IfSome d.late (IsCourse All cs)
  pub past : IfSome d.past (IsCourse All cs)
  pub replies : IfSome d.replies (IsCourse Replies cs)
  pub nothing : IfSome d.nothing (IsCourse Nothing cs)
  pub invocations : IfSome d.invocations (IsCourse Invocations cs)

-- ---- of one move

abbrev pub all_threads : Span
all_threads = record { before = 2 ^ 64 - 1; upto = 2 ^ 64 - 1; past = 0 }

abbrev pub unknown : Drift
unknown = record { span = record all_threads { before = 0 }; early = None; late = None; past = None; replies = None; nothing = None; invocations = None }

abbrev pub still : Drift
still = record { span = all_threads; early = Some stays; late = None; past = None; replies = Some stays; nothing = Some stays; invocations = Some stays }

abbrev pub by_invocation : Course → Drift
by_invocation c = record still { invocations = Some c }

abbrev pub by_raise : ℕ → Drift
by_raise ticket = record still { span = record all_threads { before = ticket }; early = Some raises; replies = Some raises }

abbrev pub by_lowering : ℕ → Drift
by_lowering ticket = record still { early = Some (lowers_at ticket); replies = Some (lowers_at ticket); nothing = Some (lowers_at ticket) }

abbrev pub by_composite : ℕ → Drift
by_composite after = record still {
  span = record all_threads { upto = after; past = after + 1 };
  early = Some (record raises { greatest = after });
  late = Some (record stays { least = after + 1 });
}

-- ---- moves as they are kept

abbrev pub ones_of : List Step → List Change
ones_of steps = map (λ (step : Step). step.one) steps

abbrev pub no_step : Step
no_step = record { one = Keep; back = 0; all = unknown }

-- the moves from one on, up to another
abbrev pub between : ℕ → ℕ → List Change → List Change
between from at cs = drop from (take at cs)

-- what a step has of moves: all that were made from an earlier time on, the one after so many among them
pub record IsJoined (cs : List Change) (at : ℕ) (step : Step) : Type 0 where
  pub earlier : step.back ≤ at
  pub follows : Follows (between step.back (suc at) cs) step.all

abbrev pub AreJoined : List Step → Type 0
AreJoined steps = (at : ℕ) → at < length steps → IsJoined (ones_of steps) at (get_or steps at no_step)
