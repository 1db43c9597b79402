use Rattle.std.proofs.lemmas.Result.{err_from_is_err_and}
use Rattle.jdwp_wire.specs.Each.{times_at}
use Rattle.jdwp_layout.specs.Shapes.{entry_shape}
use Rattle.jdwp_layout.specs.Reads.{entry_at}
use Rattle.jdwp_wire.specs.Reading.{passed}
use Rattle.jdwp_wire.proofs.Passed.{times_go_on, times_end}
use Rattle.jdwp_layout.proofs.validation.skip_entries.Goals as goal

pub returns-in_err-after-clause-value : goal.returns-in_err-after-clause-value
returns-in_err-after-clause-value c =
    let decode = entry_at c.args.sizes.now c.args.whole (entry_shape c.args.entry) in
    let r = err_from_is_err_and c.from_residual.result c.from_residual.ensures.1 in
    rw (r.1, r.2) (times_end decode c.in_err-after.field-0.0 c.args.count c.loop.counter c.loop.rest.now (passed (times_at decode c.args.count c.args.bytes.now)) c.loop-test.true c.in_err-after.ensures.value c.loop.invariant)

pub loop-preserved : goal.loop-preserved
loop-preserved c =
    let decode = entry_at c.args.sizes.now c.args.whole (entry_shape c.args.entry) in
    times_go_on decode c.args.count c.loop.counter c.loop.rest.now c.in_ok-after.after.now (passed (times_at decode c.args.count c.args.bytes.now)) c.loop-test.true c.in_ok-after.ensures.value c.loop.invariant
