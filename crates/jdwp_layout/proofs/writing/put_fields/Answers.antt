use Rattle.std.proofs.lemmas.Grind.{common_steps}
use Rattle.std.proofs.Common.{◌+◌, ◌-◌, ◌∷◌, length, get_or, take, drop, arith}
use Rattle.std.proofs.lemmas.Result.{err_from_is_err_and}
use Rattle.std.proofs.lemmas.List.{drop_more}
use Rattle.jdwp_layout.specs.declared.item.Field.TheVariants as field
use Rattle.jdwp_layout.specs.Meanings.{scalar_meaning, scalar_meanings}
use Rattle.jdwp_layout.specs.Grammar.{EncodesField}
use Rattle.jdwp_layout.specs.Writes.{scalar_canonical, field_refusal}
use Rattle.jdwp_layout.specs.EntryLaws.{field_unrefused}
use Rattle.jdwp_layout.proofs.Progress.{meanings_are, none_left, each_same, each_stands, each_short, each_kept, each_stop, each_go_on}
use Rattle.jdwp_layout.proofs.writing.put_fields.Goals as goal

pub returns-in-empty-clause-err : goal.returns-in-empty-clause-err
returns-in-empty-clause-err c =
    let w = c.args.sizes.now in
    let ks = c.args.fields.now in
    let xs = scalar_meanings c.args.scalars.now in
    let i = c.loop-field.field-index in
    let k = get_or c.args.fields.now i field.Byte in
    let now = c.loop-field.output.items in
    let p = each_same (EncodesField w) (scalar_canonical w) (field_refusal w) ks xs c.args.output.now.items _ _ (k ∷ drop (i + 1) c.args.fields.now) _ now (drop_more c.args.fields.now i field.Byte c.loop-field-test.true) (none_left scalar_meaning c.loop-field.left.now c.in-empty.len_below) c.loop-field.invariant.progress in
    (each_stands (EncodesField w) (scalar_canonical w) (field_refusal w) ks xs c.args.output.now.items _ _ now c.loop-field.invariant.progress, each_short (EncodesField w) (scalar_canonical w) (field_refusal w) ks xs c.args.output.now.items k (drop (i + 1) c.args.fields.now) now p)

pub returns-in_err-put_field-in-len1-up-clause-err : goal.returns-in_err-put_field-in-len1-up-clause-err
returns-in_err-put_field-in-len1-up-clause-err c =
    let w = c.args.sizes.now in
    let ks = c.args.fields.now in
    let xs = scalar_meanings c.args.scalars.now in
    let i = c.loop-field.field-index in
    let k = get_or c.args.fields.now i field.Byte in
    let left = c.loop-field.left.now in
    let v = c.scalar-item.result in
    let now = c.loop-field.output.items in
    let r = err_from_is_err_and c.from_residual.result c.from_residual.ensures.1 in
    let p = each_same (EncodesField w) (scalar_canonical w) (field_refusal w) ks xs c.args.output.now.items _ _ (k ∷ drop (i + 1) c.args.fields.now) (scalar_meaning v ∷ scalar_meanings (take (length left - 1) (drop 1 left))) now (drop_more c.args.fields.now i field.Byte c.loop-field-test.true) (meanings_are scalar_meaning left v c.in-len1-up.len_at_least c.scalar-item.is) c.loop-field.invariant.progress in
    rw (r.1, r.2) (
      each_kept (EncodesField w) (scalar_canonical w) (field_refusal w) ks xs c.args.output.now.items _ _ now c.put_field.new.output.items c.in_err-put_field-in-len1-up.ensures.err.0 c.loop-field.invariant.progress,
      each_stop (EncodesField w) (scalar_canonical w) (field_refusal w) ks xs c.args.output.now.items c.in_err-put_field-in-len1-up.field-0.0 k (drop (i + 1) c.args.fields.now) (scalar_meaning v) (scalar_meanings (take (length left - 1) (drop 1 left))) now c.in_err-put_field-in-len1-up.ensures.err.1 p,
    )

pub loop-field-preserved : goal.loop-field-preserved
loop-field-preserved c =
    let w = c.args.sizes.now in
    let ks = c.args.fields.now in
    let xs = scalar_meanings c.args.scalars.now in
    let i = c.loop-field.field-index in
    let k = get_or c.args.fields.now i field.Byte in
    let left = c.loop-field.left.now in
    let v = c.scalar-item.result in
    let now = c.loop-field.output.items in
    let one = c.in_ok-put_field-in-len1-up.ensures.ok in
    let p = each_same (EncodesField w) (scalar_canonical w) (field_refusal w) ks xs c.args.output.now.items _ _ (k ∷ drop (i + 1) c.args.fields.now) (scalar_meaning v ∷ scalar_meanings (take (length left - 1) (drop 1 left))) now (drop_more c.args.fields.now i field.Byte c.loop-field-test.true) (meanings_are scalar_meaning left v c.in-len1-up.len_at_least c.scalar-item.is) c.loop-field.invariant.progress in
    record {
      progress = each_go_on (EncodesField w) (scalar_canonical w) (field_refusal w) ks xs c.args.output.now.items k (drop (i + 1) c.args.fields.now) (scalar_meaning v) (scalar_meanings (take (length left - 1) (drop 1 left))) now c.put_field.new.output.items one.0 (field_unrefused w k (scalar_canonical w (scalar_meaning v)) (scalar_meaning v) one.0) one.1 p;
      capacity = (let a = c.loop-field.invariant.capacity in let b = c.in_ok-put_field-in-len1-up.ensures.capacity in omega (arith, a, b));
    }

pub returns-in_err-put_field-in-len1-up-clause-room : goal.returns-in_err-put_field-in-len1-up-clause-room
returns-in_err-put_field-in-len1-up-clause-room c = grind (arith, common_steps)

pub returns-then-is_empty-clause-ok : goal.returns-then-is_empty-clause-ok
returns-then-is_empty-clause-ok c = grind (arith, common_steps)

pub returns-else-is_empty-clause-err : goal.returns-else-is_empty-clause-err
returns-else-is_empty-clause-err c = grind (arith, common_steps)
