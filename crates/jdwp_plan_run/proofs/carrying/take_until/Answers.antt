use Rattle.std.proofs.Common.{◌∙◌, arith}
use Rattle.jdwp_plan_run.specs.Runs.{NoMore, OneMore}
use Rattle.jdwp_plan_run.specs.RunsKept.{running}
use Rattle.jdwp_plan_run.proofs.RunLaws.{so-many}
use Rattle.jdwp_plan_run.proofs.carrying.take_until.Goals as goal

pub loop-taken-init : goal.loop-taken-init
loop-taken-init g c = NoMore _

pub loop-taken-preserved : goal.loop-taken-preserved
loop-taken-preserved g c = OneMore _ _ _ _ c.loop-taken.invariant c.in-Ok.ensures.ok

pub returns-in-Err-clause-err : goal.returns-in-Err-clause-err
returns-in-Err-clause-err g c = record {
  taken = c.loop-taken._taken;
  last = running c.loop-taken.client c.loop-taken.run (g.W.Pipe.story c.loop-taken.out);
  fewer = omega arith;
  takes = c.loop-taken.invariant;
  stops = c.in-Err.ensures.err;
}

pub returns-clause-ok : goal.returns-clause-ok
returns-clause-ok g c = so-many g.P.Pipe.story _ _ c.loop-taken._taken _ (omega arith) c.loop-taken.invariant
