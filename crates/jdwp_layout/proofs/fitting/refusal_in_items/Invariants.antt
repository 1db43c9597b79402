use Rattle.std.proofs.Common.{◌≡◌, drop}
use Rattle.jdwp_layout.specs.Shapes.{shapes}
use Rattle.jdwp_layout.specs.Meanings.{meanings}
use Rattle.jdwp_layout.specs.Writes.{data_refusal}
use Rattle.jdwp_layout.proofs.fitting.refusal_in_items.Given as goal

abbrev pub invariant-loop-item : goal.invariant-loop-item
invariant-loop-item l = data_refusal l.sizes (shapes (drop l.item-index l.items)) (meanings l.left) ≡ data_refusal l.sizes (shapes l.items) (meanings l.values)
