use Rattle.std.proofs.lemmas.Grind.{common_steps}
use Rattle.std.proofs.Common.{◌∷◌, ◌+◌, List, get_or, drop, sym, ap, ◌∙◌, arith}
use Rattle.std.proofs.lemmas.List.{drop_more}
use Rattle.jdwp_layout.specs.declared.item.Field.{Field}
use Rattle.jdwp_layout.specs.declared.item.Field.TheVariants as field
use Rattle.jdwp_layout.specs.Meanings.{ScalarMeaning, scalar_meaning, scalar_meanings}
use Rattle.jdwp_layout.specs.Writes.{fields_refusal}
use Rattle.jdwp_layout.proofs.Progress.{none_left}
use Rattle.jdwp_layout.proofs.fitting.refusal_in_fields.Goals as goal

pub returns-in-empty : goal.returns-in-empty
returns-in-empty c =
    let w = c.args.sizes.now in
    let ks = c.args.fields.now in
    let i = c.loop-field.field-index in
    let left = scalar_meanings c.loop-field.left.now in
    let more = ap (λ (fields : List Field). fields_refusal w fields left) (drop_more ks i field.Byte c.loop-field-test.true) in
    let none = ap (λ (xs : List ScalarMeaning). fields_refusal w (get_or ks i field.Byte ∷ drop (i + 1) ks) xs) (none_left scalar_meaning c.loop-field.left.now c.in-empty.len_below) in
    sym (more ∙ none) ∙ c.loop-field.invariant

pub returns-then-is_some : goal.returns-then-is_some
returns-then-is_some c = grind (arith, common_steps)

pub loop-field-preserved : goal.loop-field-preserved
loop-field-preserved c = grind (arith, common_steps)

pub returns-then-is_empty : goal.returns-then-is_empty
returns-then-is_empty c = grind (arith, common_steps)

pub returns-else-is_empty : goal.returns-else-is_empty
returns-else-is_empty c = grind (arith, common_steps)
