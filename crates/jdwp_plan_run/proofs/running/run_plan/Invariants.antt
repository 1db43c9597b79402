use Rattle.std.proofs.Common.{take}
use Rattle.jdwp_plan_run.specs.Runs.{Carries, begun}
use Rattle.jdwp_plan_run.specs.RunsKept.{running}
use Rattle.jdwp_plan_run.proofs.running.run_plan.Given as goal

-- the lines so far were carried out
abbrev pub invariant-loop-index : goal.invariant-loop-index
invariant-loop-index g l =
    Carries g.P.Pipe.story (begun l.fn.client (g.W.Pipe.story l.fn.out)) (take l.index l.plan) (running l.client l.run (g.W.Pipe.story l.out))
