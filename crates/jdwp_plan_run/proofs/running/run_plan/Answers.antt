use Rattle.std.proofs.Common.{arith, refl}
use Rattle.jdwp_plan_run.specs.Runs.{begun}
use Rattle.jdwp_plan_run.specs.RunsKept.{running}
use Rattle.jdwp_plan_run.proofs.RunLaws.{all-lines, begins, ends-at, one-line}
use Rattle.jdwp_plan_run.proofs.running.run_plan.Goals as goal

pub loop-index-init : goal.loop-index-init
loop-index-init g c = begins g.P.Pipe.story c.args.client.now c.new-run.result (g.W.Pipe.story c.args.out.now) c.args.plan.now c.new-run.ensures

pub loop-index-preserved : goal.loop-index-preserved
loop-index-preserved g c =
    one-line g.P.Pipe.story (begun c.args.client.now (g.W.Pipe.story c.args.out.now)) c.args.plan.now c.loop-index.index c.index-plan-index.result
    (running c.loop-index.client c.loop-index.run (g.W.Pipe.story c.loop-index.out)) (running c.carry_out.new.client c.carry_out.new.run (g.W.Pipe.story c.carry_out.new.out)) (omega arith)
    c.index-plan-index.is c.loop-index.invariant c.in-Ok.ensures.ok

pub returns-in-Err : goal.returns-in-Err
returns-in-Err g c =
    ends-at g.P.Pipe.story (begun c.args.client.now (g.W.Pipe.story c.args.out.now)) c.args.plan.now c.loop-index.index c.index-plan-index.result c.in-Err.stop
    (running c.loop-index.client c.loop-index.run (g.W.Pipe.story c.loop-index.out)) c.carry_out.new.client (omega arith) c.index-plan-index.is c.loop-index.invariant c.in-Err.ensures.err

pub returns : goal.returns
returns g c = record {
  last = running c.loop-index.client c.loop-index.run (g.W.Pipe.story c.loop-index.out);
  carried =
      all-lines g.P.Pipe.story (begun c.args.client.now (g.W.Pipe.story c.args.out.now)) c.args.plan.now c.loop-index.index
      (running c.loop-index.client c.loop-index.run (g.W.Pipe.story c.loop-index.out)) (omega arith) c.loop-index.invariant;
  client = refl;
  output = refl;
}
