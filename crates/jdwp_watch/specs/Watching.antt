-- What a debugger holds of a target, as it is kept.
use Rattle.std.specs.Prelude.{ℕ, ◌+◌, ◌≤◌, ◌^◌, Bool, true, false, List, Option, Some, None, if◌then◌else◌}
use Rattle.jdwp_value.specs.declared.id.ObjectId.{ObjectId}
use Rattle.jdwp_watch.specs.declared.standing.Change.{Change}
use Rattle.jdwp_watch.specs.declared.standing.Change.TheVariants.{Keep, Replied, Reported}
use Rattle.jdwp_watch.specs.declared.standing.Telling.{Telling}
use Rattle.jdwp_action.specs.Actions.{Command}
use Rattle.jdwp_apart.specs.Messages
use Rattle.jdwp_apart.specs.Watch.{Watch}
use Rattle.jdwp_watch.specs.declared.invocation.Invocation.{Invocation}
use Rattle.jdwp_watch.specs.declared.invocation.Invocation.TheVariants.{ByThread, ByAll}
use Rattle.jdwp_watch.specs.Standings.{IsUnseen, IsWithin, bound_of, knows_of}
use Rattle.jdwp_watch.specs.Tables.{Table, at, named}

pub record Watching : Type 0 where
  pub one_by_one : Bool
  pub answered : ℕ
  pub pending : List Command
  pub past : ℕ
  pub table : Table

-- The debugger's view that is kept so: threads that were never named share one pair of bounds.
abbrev pub watch_of : Watching → Watch
watch_of w = record {
  one_by_one = w.one_by_one;
  answered = w.answered;
  pending = w.pending;
  invoked = λ t. (at w.table t).invoked;
  past = w.past;
  told = λ t. bound_of (at w.table t).told;
  recounted = λ t. bound_of (at w.table t).recounted;
  knows = λ t. knows_of (at w.table t).knows;
}

-- the threads that were named
abbrev pub threads_of : Watching → List ObjectId
threads_of w = named w.table

abbrev pub invocation_of : Invocation → Messages.Invocation
invocation_of (ByThread t) = Messages.ByThread t.0
invocation_of ByAll = Messages.ByAll

-- the one thread that an invocation resumes, if it is one, and what becomes of all others
abbrev pub resumed_by : Invocation → Change → Option ObjectId × Change
resumed_by (ByThread t) change = (Some t, Keep)
resumed_by ByAll change = (None, change)

-- what becomes of the threads that a reply is not about, and of those that a composite is not of
abbrev pub others_of : ℕ → Option Telling → Change
others_of ticket None = Keep
others_of ticket (Some d) = Replied ticket d

abbrev pub others_by : ℕ → Bool → Change
others_by after stops = if stops then Reported after true None else Keep

-- no thread is known
abbrev pub nobody : ℕ → Bool
nobody t = false

-- No number is greater than the packets and one count together, and nothing is known of those that were never named.
pub record IsKept (packets answered : ℕ) (table : Table) : Type 0 where
  pub few : packets ≤ 2 ^ 62
  pub answers : answered ≤ packets
  pub within : (t : ℕ) → IsWithin (packets + 2 ^ 32) (at table t)
  pub others : IsUnseen table.others
