use Rattle.std.proofs.Common.{drop}
use Rattle.jdwp_layout.specs.Shapes.{shapes}
use Rattle.jdwp_layout.specs.Reads.{items_at}
use Rattle.jdwp_show.specs.DataText.{data_text}
use Rattle.jdwp_show.proofs.TellingLemmas.{Told}
use Rattle.jdwp_show.proofs.telling.tell_items.Given as goal

abbrev pub invariant-loop-item : goal.invariant-loop-item
invariant-loop-item l = Told data_text l.item-index l.fn.text l.text (items_at l.sizes l.whole (drop l.item-index (shapes l.items)) l.rest) (items_at l.sizes l.whole (shapes l.items) l.bytes)
