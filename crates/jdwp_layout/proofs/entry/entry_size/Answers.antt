use Rattle.std.proofs.Common.{arith}
use Rattle.jdwp_layout.specs.Meanings.{scalar_meaning}
use Rattle.jdwp_layout.specs.Writes.{scalar_canonical}
use Rattle.jdwp_layout.proofs.Sizes.{all_sized}
use Rattle.jdwp_layout.proofs.entry.entry_size.Goals as goal

pub returns : goal.returns
returns c =
    let past = c.loop-scalar-test.false in
    all_sized scalar_meaning (scalar_canonical c.args.sizes.now) c.args.scalars.now c.loop-scalar.scalar-index c.loop-scalar.total (omega (arith, past)) c.loop-scalar.invariant.small c.loop-scalar.invariant.sized
