use Rattle.std.proofs.Common.{◌≡◌, drop}
use Rattle.jdwp_layout.specs.Shapes.{shapes}
use Rattle.jdwp_layout.specs.Reads.{items_at}
use Rattle.jdwp_wire.specs.Reading.{passed}
use Rattle.jdwp_layout.proofs.validation.skip_items.Given as goal

abbrev pub invariant-loop-item : goal.invariant-loop-item
invariant-loop-item l = passed (items_at l.sizes l.whole (drop l.item-index (shapes l.items)) l.rest) ≡ passed (items_at l.sizes l.whole (shapes l.items) l.bytes)
