use Rattle.std.proofs.Common.{◌≡◌, ◌-◌, ◌^◌, ◌+◌, ℕ, false, Option, Some, None, is_some}
use Rattle.jdwp_engine.specs.Rounds.{IsAhead, id_in}
use Rattle.jdwp_pair.specs.Events.{Moves}
use Rattle.jdwp_pair.specs.Rounds.{StepsUntil}
use Rattle.jdwp_pair.proofs.stepping.step_each.Given as goal

-- above all that were stepped
abbrev pub above : Option ℕ → ℕ
above None = 0
above (Some last) = last + 1

-- the steps so far, over a connection that did not fail
abbrev pub invariant-loop-thread : goal.invariant-loop-thread
invariant-loop-thread g l = record {
  each : StepsUntil g.M.Machine.meaning l.fn.link l.has_stepped (id_in l.walk.last) l.link;
  moves : Moves g.M.Machine.meaning l.fn.link l.link;
  works : is_some (g.C.Connection.failed_by l.connection) ≡ false;
  ahead : IsAhead (g.M.Machine.meaning.live l.link.target.moment.machine) (id_in l.walk.last) l.walk.place;
}

abbrev pub decreases-loop-thread : goal.decreases-loop-thread
decreases-loop-thread g l = 2 ^ 64 - above (id_in l.walk.last)
