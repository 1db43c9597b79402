use Rattle.std.proofs.Common.{List, ◌++◌, ap, sym, ◌∙◌}
use Rattle.jdwp_layout.specs.Meanings.{DatumMeaning, datum_meaning, meanings, scalar_meanings}
use Rattle.jdwp_answer.specs.Shaped.{IsOne, ones}
use Rattle.jdwp_answer.proofs.Fit.{none_at}
use Rattle.jdwp_answer.proofs.fields.values_of.Goals as goal

pub returns-in-None-one_of : goal.returns-in-None-one_of
returns-in-None-one_of c =
    let before = ones (scalar_meanings c.loop-item.made.items) in
    let e = ap meanings c.in-Some.ensures.steps.0 in
    none_at IsOne (meanings c.args.items.items) before (datum_meaning c.in-Some.item) (meanings c.next.new.self.rest.items)
    (ap (λ (l : List DatumMeaning). before ++ l) (sym e) ∙ c.loop-item.invariant.made) c.in-None-one_of.ensures
