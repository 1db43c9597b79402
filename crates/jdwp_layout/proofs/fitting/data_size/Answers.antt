use Rattle.std.proofs.Common.{arith}
use Rattle.jdwp_layout.specs.Meanings.{datum_meaning}
use Rattle.jdwp_layout.specs.Writes.{datum_canonical}
use Rattle.jdwp_layout.proofs.Sizes.{all_sized}
use Rattle.jdwp_layout.proofs.fitting.data_size.Goals as goal

pub returns : goal.returns
returns c =
    let past = c.loop-value-test.false in
    all_sized datum_meaning (datum_canonical c.args.sizes.now) c.args.values.now c.loop-value.value-index c.loop-value.total (omega (arith, past)) c.loop-value.invariant.small c.loop-value.invariant.sized
