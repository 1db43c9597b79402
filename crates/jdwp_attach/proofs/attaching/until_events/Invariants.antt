use Rattle.std.proofs.Common.{◌≡◌, true, is_some}
use Rattle.jdwp_attach.specs.PlanWaits.{Counts, IsNextLine}
use Rattle.jdwp_attach.specs.declared.plans.plan_line.PlanLine.TheVariants as line
use Rattle.jdwp_attach.specs.Runs.{GoesOn, IsReady, at}
use Rattle.jdwp_attach.proofs.attaching.until_events.Given as goal

-- it went on so far
abbrev pub invariant-loop-run : goal.invariant-loop-run
invariant-loop-run g l = record {
  goes : GoesOn (IsNextLine (line.Events l.count)) (at (g.P.Pipe.story l.fn.pipe) (g.W.Pipe.story l.fn.out) l.fn.debugger l.fn.run.left) (at (g.P.Pipe.story l.pipe) (g.W.Pipe.story l.out) l.debugger l.run.left);
  ready : IsReady l.debugger;
  counts : Counts l.run.composites l.run.left l.debugger;
  known : is_some l.debugger.sizes ≡ true;
}

abbrev pub decreases-loop-run : goal.decreases-loop-run
decreases-loop-run g l = l.run.left
