use Rattle.std.proofs.Common.{◌<◌, get_or, length, sym}
use Rattle.std.proofs.lemmas.Result.{err_from_is_err_and}
use Rattle.std.proofs.lemmas.List.{get_or-map, length-map}
use Rattle.jdwp_layout.specs.declared.item.Item.TheVariants as item
use Rattle.jdwp_layout.specs.declared.item.Field.TheVariants as field
use Rattle.jdwp_layout.specs.Shapes.{item_shape, shapes}
use Rattle.jdwp_layout.specs.Reads.{item_at, items_at}
use Rattle.jdwp_wire.specs.Reading.{passed}
use Rattle.jdwp_wire.proofs.Passed.{each_go_on, each_end}
use Rattle.jdwp_layout.proofs.validation.skip_items.Goals as goal

pub returns-in_err-after-clause-value : goal.returns-in_err-after-clause-value
returns-in_err-after-clause-value c =
    let w = c.args.sizes.now in
    let i = c.loop-item.item-index in
    let d = item.One field.Byte in
    let k = item_shape (get_or c.args.items.now i d) in
    let lt = c.loop-item-test.true in
    let below : i < length (shapes c.args.items.now) = rw (length-map c.args.items.now item_shape) lt in
    let r = err_from_is_err_and c.from_residual.result c.from_residual.ensures.1 in
    rw (r.1, r.2) (each_end (item_at w c.args.whole) c.in_err-after.field-0.0 (shapes c.args.items.now) i k c.loop-item.rest.now (passed (items_at w c.args.whole (shapes c.args.items.now) c.args.bytes.now))
    below (sym (get_or-map item_shape c.args.items.now i d k lt)) c.in_err-after.ensures.value c.loop-item.invariant)

pub loop-item-preserved : goal.loop-item-preserved
loop-item-preserved c =
    let w = c.args.sizes.now in
    let i = c.loop-item.item-index in
    let d = item.One field.Byte in
    let k = item_shape (get_or c.args.items.now i d) in
    let lt = c.loop-item-test.true in
    let below : i < length (shapes c.args.items.now) = rw (length-map c.args.items.now item_shape) lt in
    each_go_on (item_at w c.args.whole) (shapes c.args.items.now) i k c.loop-item.rest.now c.in_ok-after.after.now (passed (items_at w c.args.whole (shapes c.args.items.now) c.args.bytes.now))
    below (sym (get_or-map item_shape c.args.items.now i d k lt)) c.in_ok-after.ensures.value c.loop-item.invariant
