use Rattle.std.proofs.Common.{◌∙◌, sym}
use Rattle.jdwp_attach.proofs.Moves.{answers-awaited, none-waits, some-waits}
use Rattle.jdwp_attach.proofs.attaching.until_answered.Goals as goal

pub loop-alloc-preserved : goal.loop-alloc-preserved
loop-alloc-preserved g c =
    let waits = some-waits c.loop-alloc.debugger.pending c.unanswered.result (sym c.is_some.ensures ∙ c.loop-alloc-test.true) c.unanswered.ensures in
    record {
      goes = λ plan done base at k. c.in_default.ensures.goes plan done base (answers-awaited plan done c.loop-alloc.debugger at waits) (c.loop-alloc.invariant.goes plan done base at k);
      ready = c.in_default.ensures.ready;
      counts = c.in_default.ensures.counts;
      known = c.in_default.ensures.known c.loop-alloc.invariant.known;
    }

pub returns-in-Err-clause-ends : goal.returns-in-Err-clause-ends
returns-in-Err-clause-ends g c = λ plan done base begins at k.
    let waits = some-waits c.loop-alloc.debugger.pending c.unanswered.result (sym c.is_some.ensures ∙ c.loop-alloc-test.true) c.unanswered.ensures in
    c.in-Err.ensures.ends plan done base begins (answers-awaited plan done c.loop-alloc.debugger at waits) (c.loop-alloc.invariant.goes plan done base at k)

pub returns-clause-answered : goal.returns-clause-answered
returns-clause-answered g c = none-waits c.loop-alloc.debugger.pending c.unanswered.result (sym c.is_some.ensures ∙ c.loop-alloc-test.false) c.unanswered.ensures
