use Rattle.std.proofs.Common.{◌<◌, ◌^◌}
use Rattle.jdwp_layout.specs.Meanings.{datum_meaning}
use Rattle.jdwp_layout.specs.Writes.{datum_canonical}
use Rattle.jdwp_layout.proofs.Sizes.{Sized}
use Rattle.jdwp_layout.proofs.fitting.data_size.Given as goal

abbrev pub invariant-loop-value : goal.invariant-loop-value
invariant-loop-value l = record {
  sized : Sized datum_meaning (datum_canonical l.sizes) l.values l.value-index l.total;
  small : l.total < 2 ^ 64;
}
