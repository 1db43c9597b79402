use Rattle.std.proofs.lemmas.Grind.{common_steps}
use Rattle.std.proofs.Common.{◌+◌, ◌-◌, ◌∷◌, length, get_or, take, drop, arith}
use Rattle.std.proofs.lemmas.Result.{err_from_is_err_and}
use Rattle.std.proofs.lemmas.List.{drop_more}
use Rattle.std.proofs.Common.{ap}
use Rattle.jdwp_layout.specs.declared.item.Item.TheVariants as item
use Rattle.jdwp_layout.specs.declared.item.Field.TheVariants as field
use Rattle.jdwp_layout.specs.Shapes.{item_shape, shapes}
use Rattle.jdwp_layout.specs.Meanings.{datum_meaning, meanings}
use Rattle.jdwp_layout.specs.Grammar.{EncodesItem}
use Rattle.jdwp_layout.specs.Writes.{datum_canonical, item_refusal}
use Rattle.jdwp_layout.proofs.GrammarLaws.{item_unrefused}
use Rattle.jdwp_layout.proofs.Progress.{meanings_are, none_left, each_same, each_stands, each_short, each_kept, each_stop, each_go_on}
use Rattle.jdwp_layout.proofs.writing.put_items.Goals as goal

pub returns-in-empty-clause-err : goal.returns-in-empty-clause-err
returns-in-empty-clause-err c =
    let w = c.args.sizes.now in
    let ks = shapes c.args.items.now in
    let xs = meanings c.args.values.now in
    let i = c.loop-item.item-index in
    let k = item_shape (get_or c.args.items.now i (item.One field.Byte)) in
    let now = c.loop-item.output.items in
    let p = each_same (EncodesItem w) (datum_canonical w) (item_refusal w) ks xs c.args.output.now.items _ _ (k ∷ shapes (drop (i + 1) c.args.items.now)) _ now (ap shapes (drop_more c.args.items.now i (item.One field.Byte) c.loop-item-test.true)) (none_left datum_meaning c.loop-item.left.now c.in-empty.len_below) c.loop-item.invariant.progress in
    (each_stands (EncodesItem w) (datum_canonical w) (item_refusal w) ks xs c.args.output.now.items _ _ now c.loop-item.invariant.progress, each_short (EncodesItem w) (datum_canonical w) (item_refusal w) ks xs c.args.output.now.items k (shapes (drop (i + 1) c.args.items.now)) now p)

pub returns-in_err-put_item-in-len1-up-clause-err : goal.returns-in_err-put_item-in-len1-up-clause-err
returns-in_err-put_item-in-len1-up-clause-err c =
    let w = c.args.sizes.now in
    let ks = shapes c.args.items.now in
    let xs = meanings c.args.values.now in
    let i = c.loop-item.item-index in
    let k = item_shape (get_or c.args.items.now i (item.One field.Byte)) in
    let left = c.loop-item.left.now in
    let v = c.value-item.result in
    let now = c.loop-item.output.items in
    let r = err_from_is_err_and c.from_residual.result c.from_residual.ensures.1 in
    let p = each_same (EncodesItem w) (datum_canonical w) (item_refusal w) ks xs c.args.output.now.items _ _ (k ∷ shapes (drop (i + 1) c.args.items.now)) (datum_meaning v ∷ meanings (take (length left - 1) (drop 1 left))) now (ap shapes (drop_more c.args.items.now i (item.One field.Byte) c.loop-item-test.true)) (meanings_are datum_meaning left v c.in-len1-up.len_at_least c.value-item.is) c.loop-item.invariant.progress in
    rw (r.1, r.2) (
      each_kept (EncodesItem w) (datum_canonical w) (item_refusal w) ks xs c.args.output.now.items _ _ now c.put_item.new.output.items c.in_err-put_item-in-len1-up.ensures.err.0 c.loop-item.invariant.progress,
      each_stop (EncodesItem w) (datum_canonical w) (item_refusal w) ks xs c.args.output.now.items c.in_err-put_item-in-len1-up.field-0.0 k (shapes (drop (i + 1) c.args.items.now)) (datum_meaning v) (meanings (take (length left - 1) (drop 1 left))) now c.in_err-put_item-in-len1-up.ensures.err.1 p,
    )

pub loop-item-preserved : goal.loop-item-preserved
loop-item-preserved c =
    let w = c.args.sizes.now in
    let ks = shapes c.args.items.now in
    let xs = meanings c.args.values.now in
    let i = c.loop-item.item-index in
    let k = item_shape (get_or c.args.items.now i (item.One field.Byte)) in
    let left = c.loop-item.left.now in
    let v = c.value-item.result in
    let now = c.loop-item.output.items in
    let one = c.in_ok-put_item-in-len1-up.ensures.ok in
    let p = each_same (EncodesItem w) (datum_canonical w) (item_refusal w) ks xs c.args.output.now.items _ _ (k ∷ shapes (drop (i + 1) c.args.items.now)) (datum_meaning v ∷ meanings (take (length left - 1) (drop 1 left))) now (ap shapes (drop_more c.args.items.now i (item.One field.Byte) c.loop-item-test.true)) (meanings_are datum_meaning left v c.in-len1-up.len_at_least c.value-item.is) c.loop-item.invariant.progress in
    record {
      progress = each_go_on (EncodesItem w) (datum_canonical w) (item_refusal w) ks xs c.args.output.now.items k (shapes (drop (i + 1) c.args.items.now)) (datum_meaning v) (meanings (take (length left - 1) (drop 1 left))) now c.put_item.new.output.items one.0 (item_unrefused w k (datum_canonical w (datum_meaning v)) (datum_meaning v) one.0) one.1 p;
      capacity = (let a = c.loop-item.invariant.capacity in let b = c.in_ok-put_item-in-len1-up.ensures.capacity in omega (arith, a, b));
    }

pub returns-in_err-put_item-in-len1-up-clause-room : goal.returns-in_err-put_item-in-len1-up-clause-room
returns-in_err-put_item-in-len1-up-clause-room c = grind (arith, common_steps)

pub returns-then-not-is_empty-clause-err : goal.returns-then-not-is_empty-clause-err
returns-then-not-is_empty-clause-err c = grind (arith, common_steps)

pub returns-clause-ok : goal.returns-clause-ok
returns-clause-ok c = grind (arith, common_steps)
