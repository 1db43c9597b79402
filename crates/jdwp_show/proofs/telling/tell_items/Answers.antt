use Rattle.std.proofs.Common.{◌<◌, ◌≤◌, length, get_or, refl, sym, codes, arith}
use Rattle.std.proofs.lemmas.List.{get_or-map, length-map}
use Rattle.jdwp_layout.specs.declared.item.Item.TheVariants as item
use Rattle.jdwp_layout.specs.declared.item.Field.TheVariants as field
use Rattle.jdwp_layout.specs.Shapes.{item_shape, shapes}
use Rattle.jdwp_layout.specs.Reads.{item_at}
use Rattle.jdwp_show.specs.DataText.{datum_text, data_text}
use Rattle.jdwp_show.proofs.TellingLemmas.{told_none, each_told, each_told_end, data_grow}
use Rattle.jdwp_show.proofs.telling.tell_items.Goals as goal

pub loop-item-init : goal.loop-item-init
loop-item-init c = told_none data_text _ _ refl

pub loop-item-preserved : goal.loop-item-preserved
loop-item-preserved c =
    let items = c.args.items.now in
    let i = c.loop-item.item-index in
    let d = item.One field.Byte in
    let lt : i < length items = omega arith in
    let below : i < length (shapes items) = rw (length-map items item_shape) lt in
    each_told datum_text (λ n. codes " ") data_text data_grow (item_at c.args.sizes.now c.args.whole) (shapes items) (item_shape (get_or items i d)) i c.loop-item.rest.now c.in_ok-after.after.now _ _ _ _ _
    below (sym (get_or-map item_shape items i d (item_shape (get_or items i d)) lt)) c.push_str.ensures.grows c.in_ok-after.ensures c.loop-item.invariant

pub returns : goal.returns
returns c =
    let items = c.args.items.now in
    let past : length (shapes items) ≤ c.loop-item.item-index = rw (length-map items item_shape) (omega arith) in
    each_told_end data_text (item_at c.args.sizes.now c.args.whole) (shapes items) c.loop-item.item-index c.loop-item.rest.now _ _ _ past c.loop-item.invariant
