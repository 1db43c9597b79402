use Rattle.std.proofs.Common.{arith}
use Rattle.jdwp_layout.specs.Meanings.{entry_meaning}
use Rattle.jdwp_layout.specs.Writes.{entry_canonical}
use Rattle.jdwp_layout.proofs.Sizes.{all_sized}
use Rattle.jdwp_layout.proofs.fitting.entries_size.Goals as goal

pub returns : goal.returns
returns c =
    let past = c.loop-scalars-test.false in
    all_sized entry_meaning (entry_canonical c.args.sizes.now) c.args.entries.now c.loop-scalars.scalars-index c.loop-scalars.total (omega (arith, past)) c.loop-scalars.invariant.small c.loop-scalars.invariant.sized
