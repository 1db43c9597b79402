use Rattle.std.proofs.lemmas.Grind.{common_steps}
use Rattle.std.proofs.Common.{◌∷◌, ◌+◌, List, get_or, drop, sym, ap, ◌∙◌, arith}
use Rattle.std.proofs.lemmas.List.{drop_more}
use Rattle.jdwp_layout.specs.declared.item.Item.{Item}
use Rattle.jdwp_layout.specs.declared.item.Item.TheVariants as item
use Rattle.jdwp_layout.specs.Shapes.{shapes}
use Rattle.jdwp_layout.specs.Meanings.{DatumMeaning, datum_meaning, meanings}
use Rattle.jdwp_layout.specs.Writes.{data_refusal}
use Rattle.jdwp_layout.proofs.Progress.{none_left}
use Rattle.jdwp_layout.proofs.fitting.refusal_in_items.Goals as goal

pub returns-in-empty : goal.returns-in-empty
returns-in-empty c =
    let w = c.args.sizes.now in
    let ks = c.args.items.now in
    let i = c.loop-item.item-index in
    let left = meanings c.loop-item.left.now in
    let more = ap (λ (items : List Item). data_refusal w (shapes items) left) (drop_more ks i item.Region c.loop-item-test.true) in
    let none = ap (λ (xs : List DatumMeaning). data_refusal w (shapes (get_or ks i item.Region ∷ drop (i + 1) ks)) xs) (none_left datum_meaning c.loop-item.left.now c.in-empty.len_below) in
    sym (more ∙ none) ∙ c.loop-item.invariant

pub returns-then-is_some : goal.returns-then-is_some
returns-then-is_some c = grind (arith, common_steps)

pub loop-item-preserved : goal.loop-item-preserved
loop-item-preserved c = grind (arith, common_steps)

pub returns-then-is_empty : goal.returns-then-is_empty
returns-then-is_empty c = grind (arith, common_steps)

pub returns-else-is_empty : goal.returns-else-is_empty
returns-else-is_empty c = grind (arith, common_steps)
