use Rattle.std.proofs.Common.{◌≤◌, drop, vec_capacity}
use Rattle.jdwp_layout.specs.Shapes.{shapes}
use Rattle.jdwp_layout.specs.Meanings.{meanings}
use Rattle.jdwp_layout.specs.Grammar.{EncodesItem}
use Rattle.jdwp_layout.specs.Writes.{datum_canonical, item_refusal}
use Rattle.jdwp_layout.proofs.Progress.{EachProgress}
use Rattle.jdwp_layout.proofs.writing.put_items.Given as goal

abbrev pub invariant-loop-item : goal.invariant-loop-item
invariant-loop-item l = record {
  progress : EachProgress (EncodesItem l.sizes) (datum_canonical l.sizes) (item_refusal l.sizes) (shapes l.items) (meanings l.values) l.fn.output.items (shapes (drop l.item-index l.items)) (meanings l.left) l.output.items;
  capacity : vec_capacity l.fn.output ≤ vec_capacity l.output;
}
