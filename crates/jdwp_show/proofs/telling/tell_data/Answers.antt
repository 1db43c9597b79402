use Rattle.std.proofs.Common.{length, sym, ◌∙◌}
use Rattle.jdwp_layout.specs.Shapes.{shapes}
use Rattle.jdwp_layout.specs.Reads.{items_at}
use Rattle.jdwp_show.proofs.TellingLemmas.{whole_told}
use Rattle.jdwp_show.proofs.telling.tell_data.Goals as goal

pub returns-then-is_empty : goal.returns-then-is_empty
returns-then-is_empty c = whole_told (items_at c.args.sizes.now (length c.args.bytes.now) (shapes c.args.items.now) c.args.bytes.now) (length c.args.bytes.now) c.args.text.now _ _ c.in_ok-rest.ensures (sym c.is_empty.ensures ∙ c.if-is_empty.true)
