use Rattle.std.proofs.Common.{◌<◌, ◌^◌}
use Rattle.jdwp_layout.specs.Meanings.{scalar_meaning}
use Rattle.jdwp_layout.specs.Writes.{scalar_canonical}
use Rattle.jdwp_layout.proofs.Sizes.{Sized}
use Rattle.jdwp_layout.proofs.entry.entry_size.Given as goal

abbrev pub invariant-loop-scalar : goal.invariant-loop-scalar
invariant-loop-scalar l = record {
  sized : Sized scalar_meaning (scalar_canonical l.sizes) l.scalars l.scalar-index l.total;
  small : l.total < 2 ^ 64;
}
