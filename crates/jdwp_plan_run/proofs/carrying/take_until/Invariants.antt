use Rattle.jdwp_plan_run.specs.Runs.{TakesEvents}
use Rattle.jdwp_plan_run.specs.RunsKept.{running}
use Rattle.jdwp_plan_run.proofs.carrying.take_until.Given as goal

-- so many composites were taken
abbrev pub invariant-loop-taken : goal.invariant-loop-taken
invariant-loop-taken g l =
    TakesEvents g.P.Pipe.story (running l.fn.client l.fn.run (g.W.Pipe.story l.fn.out)) l._taken (running l.client l.run (g.W.Pipe.story l.out))
