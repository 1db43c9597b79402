use Rattle.std.proofs.lemmas.Result.{err_from_is_err_and}
use Rattle.jdwp_wire.specs.Each.{times_at}
use Rattle.jdwp_value.specs.Regions.{element_at}
use Rattle.jdwp_wire.specs.Reading.{passed}
use Rattle.jdwp_wire.proofs.Passed.{times_go_on, times_end}
use Rattle.jdwp_value.proofs.region.pass_elements.Goals as goal

pub returns-in_err-after-clause-value : goal.returns-in_err-after-clause-value
returns-in_err-after-clause-value c =
    let decode = element_at c.args.sizes.now c.args.whole c.args.tag in
    let r = err_from_is_err_and c.from_residual.result c.from_residual.ensures.1 in
    rw (r.1, r.2) (times_end decode c.in_err-after.field-0.0 c.args.count c.loop.counter c.loop.rest.now (passed (times_at decode c.args.count c.args.bytes.now)) c.loop-test.true c.in_err-after.ensures.value c.loop.invariant)

pub loop-preserved : goal.loop-preserved
loop-preserved c =
    let decode = element_at c.args.sizes.now c.args.whole c.args.tag in
    times_go_on decode c.args.count c.loop.counter c.loop.rest.now c.in_ok-after.after.now (passed (times_at decode c.args.count c.args.bytes.now)) c.loop-test.true c.in_ok-after.ensures.value c.loop.invariant
