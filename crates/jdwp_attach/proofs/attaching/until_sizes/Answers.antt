use Rattle.std.proofs.Common.{inl}
use Rattle.jdwp_attach.proofs.Moves.{none-is}
use Rattle.jdwp_attach.proofs.attaching.until_sizes.Goals as goal

pub loop-alloc-preserved : goal.loop-alloc-preserved
loop-alloc-preserved g c =
    let unknown = none-is c.sizes.result c.loop-alloc.debugger.sizes c.is_none.result c.sizes.ensures c.is_none.ensures c.loop-alloc-test.true in
    record {
      goes = λ plan done base at k. c.in_default.ensures.goes plan done base (inl unknown) (c.loop-alloc.invariant.goes plan done base at k);
      ready = c.in_default.ensures.ready;
      counts = c.in_default.ensures.counts;
    }

pub returns-in-Err-clause-ends : goal.returns-in-Err-clause-ends
returns-in-Err-clause-ends g c = λ plan done base begins at k.
    let unknown = none-is c.sizes.result c.loop-alloc.debugger.sizes c.is_none.result c.sizes.ensures c.is_none.ensures c.loop-alloc-test.true in
    c.in-Err.ensures.ends plan done base begins (inl unknown) (c.loop-alloc.invariant.goes plan done base at k)
