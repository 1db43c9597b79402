use Rattle.std.proofs.Common.{◌≡◌, ◌⊎◌, drop}
use Rattle.jdwp_wire.specs.Each.{with_front}
use Rattle.jdwp_layout.specs.Shapes.{shapes}
use Rattle.jdwp_layout.specs.Meanings.{meanings}
use Rattle.jdwp_layout.specs.Keeping.{DataAreKept}
use Rattle.jdwp_layout.specs.Reads.{items_at}
use Rattle.jdwp_layout.proofs.reading.take_items.Given as goal

abbrev pub invariant-loop-item : goal.invariant-loop-item
invariant-loop-item l = record {
  so_far : with_front (meanings l.held.items) (items_at l.sizes l.whole (drop l.item-index (shapes l.items)) l.rest) ≡ items_at l.sizes l.whole (shapes l.items) l.bytes;
  first : ((l.item-index ≡ 0) × (l.rest ≡ l.bytes)) ⊎ DataAreKept l.sizes (shapes l.items) l.bytes;
}
