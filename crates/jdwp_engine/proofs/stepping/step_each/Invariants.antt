use Rattle.std.proofs.Common.{◌-◌, ◌^◌, ◌+◌, ℕ, Option, Some, None}
use Rattle.jdwp_engine.specs.Rounds.{IsAhead, StepsUntil, id_in}
use Rattle.jdwp_engine.specs.Steps.{StepsIf}
use Rattle.jdwp_engine.proofs.stepping.step_each.Given as goal

-- above all that were stepped
abbrev pub above : Option ℕ → ℕ
above None = 0
above (Some last) = last + 1

-- what was stepped so far
abbrev pub invariant-loop-thread : goal.invariant-loop-thread
invariant-loop-thread g l = record {
  made : StepsIf l.fn.target l.target l.has_stepped;
  each : StepsUntil g.M.Machine.meaning l.fn.target l.has_stepped (id_in l.walk.last) l.target;
  ahead : IsAhead (g.M.Machine.meaning.live l.target.moment.machine) (id_in l.walk.last) l.walk.place;
}

abbrev pub decreases-loop-thread : goal.decreases-loop-thread
decreases-loop-thread g l = 2 ^ 64 - above (id_in l.walk.last)
