use Rattle.std.proofs.lemmas.Grind.{common_steps}
use Rattle.std.proofs.Common.{◌≡◌, ◌++◌, ◌∷◌, [], ◌<◌, length, get_or, sym, arith, inr}
use Rattle.std.proofs.lemmas.Result.{err_from_is_err_and}
use Rattle.std.proofs.lemmas.List.{map_push, get_or-map, length-map}
use Rattle.std.proofs.Math.Facts.{Fits-lt-pow}
use Rattle.jdwp_wire.proofs.Loop.{each_go_on, each_end}
use Rattle.jdwp_layout.specs.declared.item.Item.TheVariants as item
use Rattle.jdwp_layout.specs.declared.item.Field.TheVariants as field
use Rattle.jdwp_layout.specs.Shapes.{item_shape, shapes}
use Rattle.jdwp_layout.specs.Meanings.{datum_meaning, meanings}
use Rattle.jdwp_layout.specs.Reads.{item_at, items_at}
use Rattle.jdwp_wire.proofs.Keeps.{begins, first_kept}
use Rattle.jdwp_layout.specs.Grammar.{EncodesItem}
use Rattle.jdwp_layout.specs.Keeping.{ItemIsKept}
use Rattle.jdwp_layout.proofs.GrammarLaws.{item_codes}
use Rattle.jdwp_layout.proofs.reading.take_items.Goals as goal

pub returns-in_err-datum-clause-value : goal.returns-in_err-datum-clause-value
returns-in_err-datum-clause-value c =
    let i = c.loop-item.item-index in
    let d = item.One field.Byte in
    let k = item_shape (get_or c.args.items.now i d) in
    let lt = c.loop-item-test.true in
    let below : i < length (shapes c.args.items.now) = rw (length-map c.args.items.now item_shape) lt in
    let p = err_from_is_err_and c.from_residual.result c.from_residual.ensures.1 in
    rw (p.1, p.2) (each_end (item_at c.args.sizes.now c.args.whole) c.in_err-datum.field-0.0 (meanings c.loop-item.held.items) (shapes c.args.items.now) i k c.loop-item.rest.now (items_at c.args.sizes.now c.args.whole (shapes c.args.items.now) c.args.bytes.now)
    below (sym (get_or-map item_shape c.args.items.now i d k lt)) c.in_err-datum.ensures.value c.loop-item.invariant.so_far)

pub loop-item-preserved : goal.loop-item-preserved
loop-item-preserved c =
    let i = c.loop-item.item-index in
    let d = item.One field.Byte in
    let k = item_shape (get_or c.args.items.now i d) in
    let lt = c.loop-item-test.true in
    let below : i < length (shapes c.args.items.now) = rw (length-map c.args.items.now item_shape) lt in
    let e : meanings c.push.new.self.items ≡ meanings c.loop-item.held.items ++ datum_meaning c.in_ok-datum.datum ∷ [] = rw c.in_ok-push.ensures.items (map_push _ c.loop-item.held.items c.in_ok-datum.datum) in
    record {
      so_far = rw e (each_go_on (item_at c.args.sizes.now c.args.whole) (meanings c.loop-item.held.items) (shapes c.args.items.now) i k c.loop-item.rest.now (datum_meaning c.in_ok-datum.datum) c.in_ok-datum.after.now (items_at c.args.sizes.now c.args.whole (shapes c.args.items.now) c.args.bytes.now)
          below (sym (get_or-map item_shape c.args.items.now i d k lt)) c.in_ok-datum.ensures.value c.loop-item.invariant.so_far);
      first = inr (first_kept (ItemIsKept c.args.sizes.now) (EncodesItem c.args.sizes.now) (shapes c.args.items.now) i k c.args.bytes.now c.loop-item.rest.now below (sym (get_or-map item_shape c.args.items.now i d k lt))
          (λ same. inr (begins (item_codes c.args.sizes.now c.args.whole k).found c.args.bytes.now c.loop-item.rest.now (datum_meaning c.in_ok-datum.datum) c.in_ok-datum.after.now (λ j. Fits-lt-pow (c.type_inv.bytes j)) c.in_ok-datum.ensures.value same)) c.loop-item.invariant.first);
    }

pub returns-in_err-push-clause-memory : goal.returns-in_err-push-clause-memory
returns-in_err-push-clause-memory c = λ failed.
    let i = c.loop-item.item-index in
    let d = item.One field.Byte in
    let k = item_shape (get_or c.args.items.now i d) in
    let lt = c.loop-item-test.true in
    let below : i < length (shapes c.args.items.now) = rw (length-map c.args.items.now item_shape) lt in
    first_kept (ItemIsKept c.args.sizes.now) (EncodesItem c.args.sizes.now) (shapes c.args.items.now) i k c.args.bytes.now c.loop-item.rest.now below (sym (get_or-map item_shape c.args.items.now i d k lt))
    (λ same. inr (begins (item_codes c.args.sizes.now c.args.whole k).found c.args.bytes.now c.loop-item.rest.now (datum_meaning c.in_ok-datum.datum) c.in_ok-datum.after.now (λ j. Fits-lt-pow (c.type_inv.bytes j)) c.in_ok-datum.ensures.value same)) c.loop-item.invariant.first

pub returns-in_err-datum-clause-memory : goal.returns-in_err-datum-clause-memory
returns-in_err-datum-clause-memory c = grind (arith, common_steps)

pub returns-clause-value : goal.returns-clause-value
returns-clause-value c = grind (arith, common_steps)
