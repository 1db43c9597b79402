use Rattle.std.proofs.Common.{◌≡◌, true, is_some}
use Rattle.jdwp_attach.specs.PlanWaits.{Counts}
use Rattle.jdwp_attach.specs.Runs.{GoesOn, IsAtAnswers, IsReady, at}
use Rattle.jdwp_attach.proofs.attaching.until_answered.Given as goal

-- it went on so far
abbrev pub invariant-loop-alloc : goal.invariant-loop-alloc
invariant-loop-alloc g l = record {
  goes : GoesOn IsAtAnswers (at (g.P.Pipe.story l.fn.pipe) (g.W.Pipe.story l.fn.out) l.fn.debugger l.fn.run.left) (at (g.P.Pipe.story l.pipe) (g.W.Pipe.story l.out) l.debugger l.run.left);
  ready : IsReady l.debugger;
  counts : Counts l.run.composites l.run.left l.debugger;
  known : is_some l.debugger.sizes ≡ true;
}

abbrev pub decreases-loop-alloc : goal.decreases-loop-alloc
decreases-loop-alloc g l = l.run.left
