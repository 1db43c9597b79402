use Rattle.std.proofs.Common.{◌≡◌, true, is_some, take}
use Rattle.jdwp_attach.specs.PlanWaits.{Counts}
use Rattle.jdwp_attach.specs.Runs.{IsGoing, IsReady, at}
use Rattle.jdwp_attach.proofs.attaching.run_plan.Given as goal

-- the lines so far were carried out
abbrev pub invariant-loop-place : goal.invariant-loop-place
invariant-loop-place g l = record {
  goes : IsGoing l.plan (take l.place l.plan) (at (g.P.Pipe.story l.fn.pipe) (g.W.Pipe.story l.fn.out) l.fn.debugger l.fn.run.left) (at (g.P.Pipe.story l.pipe) (g.W.Pipe.story l.out) l.debugger l.run.left);
  ready : IsReady l.debugger;
  counts : Counts l.run.composites l.run.left l.debugger;
  known : is_some l.debugger.sizes ≡ true;
}
