use Rattle.std.proofs.lemmas.Grind.{common_steps}
use Rattle.std.proofs.Common.{◌≡◌, ◌+◌, ◌∷◌, drop, List, sym, ap, subst, ◌∙◌, arith}
use Rattle.std.specs.Global.{Vec}
use Rattle.std.proofs.lemmas.Result.{err_from_is_err_and}
use Rattle.std.proofs.lemmas.List.{drop_more}
use Rattle.jdwp_wire.specs.Reading.{Written, Refused}
use Rattle.jdwp_layout.specs.declared.datum.Scalar.{Scalar}
use Rattle.jdwp_layout.specs.Shapes.{entry_shape}
use Rattle.jdwp_layout.specs.Meanings.{scalar_meanings, entry_meaning, entry_meanings}
use Rattle.jdwp_layout.specs.Grammar.{EncodesEntry}
use Rattle.jdwp_layout.specs.Writes.{entry_canonical, entry_refusal}
use Rattle.jdwp_layout.specs.EntryLaws.{entry_unrefused}
use Rattle.jdwp_layout.proofs.Progress.{AllProgress, all_kept, all_stop, all_go_on}
use Rattle.jdwp_layout.proofs.writing.put_entries.Goals as goal

pub returns-in_err-put_entry-clause-err : goal.returns-in_err-put_entry-clause-err
returns-in_err-put_entry-clause-err c =
    let w = c.args.sizes.now in
    let e = entry_shape c.args.entry in
    let vs = c.args.entries.now in
    let xs = entry_meanings vs in
    let i = c.loop-scalars.scalars-index in
    let v = c.scalars-item.result in
    let now = c.loop-scalars.output.items in
    let left : drop i vs ≡ v ∷ drop (i + 1) vs = drop_more vs i v c.loop-scalars-test.true ∙ ap (λ (x : Vec Scalar). x ∷ drop (i + 1) vs) (sym c.scalars-item.is) in
    let p = subst (λ (l : List (Vec Scalar)). AllProgress (EncodesEntry w e) (entry_canonical w) (entry_refusal w e) xs c.args.output.now.items (entry_meanings l) now) left c.loop-scalars.invariant.progress in
    let r = err_from_is_err_and c.from_residual.result c.from_residual.ensures.1 in
    let refused = subst (λ (l : List Scalar). Refused c.in_err-put_entry.field-0.0 (entry_refusal w e (scalar_meanings l))) c.deref.ensures.value c.in_err-put_entry.ensures.err.1 in
    rw (r.1, r.2) (
      all_kept (EncodesEntry w e) (entry_canonical w) (entry_refusal w e) xs c.args.output.now.items _ now c.put_entry.new.output.items c.in_err-put_entry.ensures.err.0 c.loop-scalars.invariant.progress,
      all_stop (EncodesEntry w e) (entry_canonical w) (entry_refusal w e) xs c.args.output.now.items c.in_err-put_entry.field-0.0 (entry_meaning v) (entry_meanings (drop (i + 1) vs)) now refused p,
    )

pub loop-scalars-preserved : goal.loop-scalars-preserved
loop-scalars-preserved c =
    let w = c.args.sizes.now in
    let e = entry_shape c.args.entry in
    let vs = c.args.entries.now in
    let xs = entry_meanings vs in
    let i = c.loop-scalars.scalars-index in
    let v = c.scalars-item.result in
    let now = c.loop-scalars.output.items in
    let left : drop i vs ≡ v ∷ drop (i + 1) vs = drop_more vs i v c.loop-scalars-test.true ∙ ap (λ (x : Vec Scalar). x ∷ drop (i + 1) vs) (sym c.scalars-item.is) in
    let p = subst (λ (l : List (Vec Scalar)). AllProgress (EncodesEntry w e) (entry_canonical w) (entry_refusal w e) xs c.args.output.now.items (entry_meanings l) now) left c.loop-scalars.invariant.progress in
    let one = subst (λ (l : List Scalar). Written (EncodesEntry w e (scalar_meanings l)) (entry_canonical w (scalar_meanings l)) now c.put_entry.new.output.items) c.deref.ensures.value c.in_ok-put_entry.ensures.ok in
    record {
      progress = all_go_on (EncodesEntry w e) (entry_canonical w) (entry_refusal w e) xs c.args.output.now.items (entry_meaning v) (entry_meanings (drop (i + 1) vs)) now c.put_entry.new.output.items one.0 (entry_unrefused w e (entry_canonical w (entry_meaning v)) (entry_meaning v) one.0) one.1 p;
      capacity = (let a = c.loop-scalars.invariant.capacity in let b = c.in_ok-put_entry.ensures.capacity in omega (arith, a, b));
    }

pub returns-in_err-put_entry-clause-room : goal.returns-in_err-put_entry-clause-room
returns-in_err-put_entry-clause-room c = grind (arith, common_steps)

pub returns-clause-ok : goal.returns-clause-ok
returns-clause-ok c = grind (arith, common_steps)
