use Rattle.std.proofs.Common.{◌+◌, [], inr, refl, arith}
use Rattle.jdwp_end.specs.Story.{flushed}
use Rattle.jdwp_attach.specs.Runs.{at}
use Rattle.jdwp_attach.proofs.Ending.{line-ends}
use Rattle.jdwp_attach.proofs.Moves.{all-go, begins-all, begins-none, line-goes-on}
use Rattle.jdwp_attach.proofs.RefusedLines.{line-told, no-line, run-told}
use Rattle.jdwp_attach.proofs.attaching.run_plan.Goals as goal

pub returns-in-Err-clause-ends : goal.returns-in-Err-clause-ends
returns-in-Err-clause-ends g c = c.in-Err.ensures.ends c.args.plan.now (g.W.Pipe.story c.args.out.now) c.args.run.now.left

pub returns-in-Err-until_sizes-clause-ends : goal.returns-in-Err-until_sizes-clause-ends
returns-in-Err-until_sizes-clause-ends g c =
    let base = at (g.P.Pipe.story c.args.pipe.now) (g.W.Pipe.story c.args.out.now) c.args.debugger.now c.args.run.now.left in
    c.in-Err-until_sizes.ensures.ends c.args.plan.now [] base (begins-none c.args.plan.now) tt (c.in_default.ensures.goes c.args.plan.now (g.W.Pipe.story c.args.out.now) c.args.run.now.left)

pub loop-place-init : goal.loop-place-init
loop-place-init g c =
    let base = at (g.P.Pipe.story c.args.pipe.now) (g.W.Pipe.story c.args.out.now) c.args.debugger.now c.args.run.now.left in
    record {
      goes = c.in_default-until_sizes.ensures.goes c.args.plan.now [] base tt (c.in_default.ensures.goes c.args.plan.now (g.W.Pipe.story c.args.out.now) c.args.run.now.left);
      ready = c.in_default-until_sizes.ensures.ready;
      counts = c.in_default-until_sizes.ensures.counts;
      known = c.in_default-until_sizes.ensures.known;
    }

pub returns-in-Err-carry_out-clause-ends : goal.returns-in-Err-carry_out-clause-ends
returns-in-Err-carry_out-clause-ends g c =
    let base = at (g.P.Pipe.story c.args.pipe.now) (g.W.Pipe.story c.args.out.now) c.args.debugger.now c.args.run.now.left in
    let now = at (g.P.Pipe.story c.loop-place.pipe) (g.W.Pipe.story c.loop-place.out) c.loop-place.debugger c.loop-place.run.left in
    let new = at (g.P.Pipe.story c.carry_out.new.pipe) (g.W.Pipe.story c.carry_out.new.out) c.carry_out.new.debugger c.carry_out.new.run.left in
    run-told c.args.plan.now c.ended_at.result c.index-plan-place.result (c.loop-place.place + 1) c.in-Err-carry_out.ended base (g.P.Pipe.story c.carry_out.new.pipe) (g.W.Pipe.story c.carry_out.new.out) c.carry_out.new.debugger c.ended_at.ensures
    (line-ends c.args.plan.now c.loop-place.place c.index-plan-place.result now new c.in-Err-carry_out.ended c.loop-place-test.true c.index-plan-place.is c.in-Err-carry_out.ensures.ends base c.loop-place.invariant.goes)

pub returns-in-Err-carry_out-clause-line : goal.returns-in-Err-carry_out-clause-line
returns-in-Err-carry_out-clause-line g c =
    let base = at (g.P.Pipe.story c.args.pipe.now) (g.W.Pipe.story c.args.out.now) c.args.debugger.now c.args.run.now.left in
    let now = at (g.P.Pipe.story c.loop-place.pipe) (g.W.Pipe.story c.loop-place.out) c.loop-place.debugger c.loop-place.run.left in
    line-told c.args.plan.now c.ended_at.result c.loop-place.place c.index-plan-place.result now c.carry_out.new.debugger c.in-Err-carry_out.ended c.ended_at.ensures c.loop-place-test.true c.index-plan-place.is
    c.in-Err-carry_out.ensures.tells base c.loop-place.invariant.goes

pub loop-place-preserved : goal.loop-place-preserved
loop-place-preserved g c =
    let base = at (g.P.Pipe.story c.args.pipe.now) (g.W.Pipe.story c.args.out.now) c.args.debugger.now c.args.run.now.left in
    let now = at (g.P.Pipe.story c.loop-place.pipe) (g.W.Pipe.story c.loop-place.out) c.loop-place.debugger c.loop-place.run.left in
    let new = at (g.P.Pipe.story c.carry_out.new.pipe) (g.W.Pipe.story c.carry_out.new.out) c.carry_out.new.debugger c.carry_out.new.run.left in
    record {
      goes = line-goes-on c.args.plan.now c.loop-place.place c.index-plan-place.result now new c.loop-place-test.true c.index-plan-place.is c.in_default-carry_out.ensures.goes base c.loop-place.invariant.goes;
      ready = c.in_default-carry_out.ensures.ready;
      counts = c.in_default-carry_out.ensures.counts;
      known = c.in_default-carry_out.ensures.known;
    }

pub returns-in-Err-until_answered-clause-ends : goal.returns-in-Err-until_answered-clause-ends
returns-in-Err-until_answered-clause-ends g c =
    let base = at (g.P.Pipe.story c.args.pipe.now) (g.W.Pipe.story c.args.out.now) c.args.debugger.now c.args.run.now.left in
    let now = at (g.P.Pipe.story c.loop-place.pipe) (g.W.Pipe.story c.loop-place.out) c.loop-place.debugger c.loop-place.run.left in
    c.in-Err-until_answered.ensures.ends c.args.plan.now c.args.plan.now base (begins-all c.args.plan.now) (inr refl) (all-go c.args.plan.now c.loop-place.place base now (omega (arith, c.loop-place-test.false)) c.loop-place.invariant.goes)

pub returns-in-Err-until_answered-clause-line : goal.returns-in-Err-until_answered-clause-line
returns-in-Err-until_answered-clause-line g c =
    let base = at (g.P.Pipe.story c.args.pipe.now) (g.W.Pipe.story c.args.out.now) c.args.debugger.now c.args.run.now.left in
    let now = at (g.P.Pipe.story c.loop-place.pipe) (g.W.Pipe.story c.loop-place.out) c.loop-place.debugger c.loop-place.run.left in
    no-line c.args.plan.now c.in-Err-until_answered.ended base (flushed (g.P.Pipe.story c.until_answered.new.pipe)) (flushed (g.W.Pipe.story c.until_answered.new.out)) c.until_answered.new.debugger c.in-Err-until_answered.ensures.by_turn
    (c.in-Err-until_answered.ensures.ends c.args.plan.now c.args.plan.now base (begins-all c.args.plan.now) (inr refl) (all-go c.args.plan.now c.loop-place.place base now (omega (arith, c.loop-place-test.false)) c.loop-place.invariant.goes)).1

pub returns-in-Err-clause-line : goal.returns-in-Err-clause-line
returns-in-Err-clause-line g c =
    let base = at (g.P.Pipe.story c.args.pipe.now) (g.W.Pipe.story c.args.out.now) c.args.debugger.now c.args.run.now.left in
    no-line c.args.plan.now c.in-Err.ended base (flushed (g.P.Pipe.story c.write_hello.new.pipe)) (flushed (g.W.Pipe.story c.args.out.now)) c.write_hello.new.debugger c.in-Err.ensures.by_turn
    (c.in-Err.ensures.ends c.args.plan.now (g.W.Pipe.story c.args.out.now) c.args.run.now.left).1

pub returns-in-Err-until_sizes-clause-line : goal.returns-in-Err-until_sizes-clause-line
returns-in-Err-until_sizes-clause-line g c =
    let base = at (g.P.Pipe.story c.args.pipe.now) (g.W.Pipe.story c.args.out.now) c.args.debugger.now c.args.run.now.left in
    no-line c.args.plan.now c.in-Err-until_sizes.ended base (flushed (g.P.Pipe.story c.until_sizes.new.pipe)) (flushed (g.W.Pipe.story c.until_sizes.new.out)) c.until_sizes.new.debugger c.in-Err-until_sizes.ensures.by_turn
    (c.in-Err-until_sizes.ensures.ends c.args.plan.now [] base (begins-none c.args.plan.now) tt (c.in_default.ensures.goes c.args.plan.now (g.W.Pipe.story c.args.out.now) c.args.run.now.left)).1
