use Rattle.std.proofs.Common.{◌<◌, ◌^◌}
use Rattle.jdwp_layout.specs.Meanings.{entry_meaning}
use Rattle.jdwp_layout.specs.Writes.{entry_canonical}
use Rattle.jdwp_layout.proofs.Sizes.{Sized}
use Rattle.jdwp_layout.proofs.fitting.entries_size.Given as goal

abbrev pub invariant-loop-scalars : goal.invariant-loop-scalars
invariant-loop-scalars l = record {
  sized : Sized entry_meaning (entry_canonical l.sizes) l.entries l.scalars-index l.total;
  small : l.total < 2 ^ 64;
}
