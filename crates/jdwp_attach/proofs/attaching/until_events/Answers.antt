use Rattle.std.proofs.Common.{arith}
use Rattle.jdwp_attach.proofs.Counting.{counts-handled, counts-missing}
use Rattle.jdwp_attach.proofs.Moves.{events-awaited}
use Rattle.jdwp_attach.proofs.attaching.until_events.Goals as goal

pub loop-run-preserved : goal.loop-run-preserved
loop-run-preserved g c =
    let fewer = counts-missing c.loop-run.run.composites c.loop-run.run.left c.args.count c.loop-run.debugger (omega arith) c.loop-run.invariant.known c.loop-run.invariant.counts in
    record {
      goes = λ plan done base at k. c.in_default.ensures.goes plan done base (events-awaited plan done c.loop-run.debugger c.args.count at fewer) (c.loop-run.invariant.goes plan done base at k);
      ready = c.in_default.ensures.ready;
      counts = c.in_default.ensures.counts;
      known = c.in_default.ensures.known c.loop-run.invariant.known;
    }

pub returns-in-Err-clause-ends : goal.returns-in-Err-clause-ends
returns-in-Err-clause-ends g c = λ plan done base begins at k.
    let fewer = counts-missing c.loop-run.run.composites c.loop-run.run.left c.args.count c.loop-run.debugger (omega arith) c.loop-run.invariant.known c.loop-run.invariant.counts in
    c.in-Err.ensures.ends plan done base begins (events-awaited plan done c.loop-run.debugger c.args.count at fewer) (c.loop-run.invariant.goes plan done base at k)

pub returns-clause-handled : goal.returns-clause-handled
returns-clause-handled g c = counts-handled c.loop-run.run.composites c.loop-run.run.left c.args.count c.loop-run.debugger (omega arith) c.loop-run.invariant.counts
