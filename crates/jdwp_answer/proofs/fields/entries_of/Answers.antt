use Rattle.std.proofs.Common.{List, ◌++◌, map, length, ap, sym, ◌∙◌, arith}
use Rattle.jdwp_layout.specs.Meanings.{ScalarMeaning, entry_meaning, entry_meanings}
use Rattle.jdwp_answer.specs.Shaped.{HasFields}
use Rattle.jdwp_answer.proofs.Fit.{none_at, one_more}
use Rattle.jdwp_answer.proofs.fields.entries_of.Goals as goal

pub returns-in-None-of_fields : goal.returns-in-None-of_fields
returns-in-None-of_fields g c =
    let before = map g.E.Record.fields c.loop-scalars.made.items in
    let e = ap entry_meanings c.in-Some.ensures.steps.0 in
    none_at (HasFields g.E.Record.kinds) (entry_meanings c.args.entries.items) before (entry_meaning c.in-Some.scalars) (entry_meanings c.next.new.self.rest.items)
    (ap (λ (l : List (List ScalarMeaning)). before ++ l) (sym e) ∙ c.loop-scalars.invariant.made) c.in-None-of_fields.ensures

pub loop-scalars-preserved : goal.loop-scalars-preserved
loop-scalars-preserved g c =
    let before = c.loop-scalars.made.items in
    let e = c.in-Some.ensures.steps.0 in
    record {
      made = one_more g.E.Record.fields before c.push_reserved.new.self.items c.in-Some-of_fields.entry (entry_meaning c.in-Some.scalars) (entry_meanings c.next.new.self.rest.items)
          c.push_reserved.ensures.items c.in-Some-of_fields.ensures
          ∙ ap (λ (l : List (List ScalarMeaning)). map g.E.Record.fields before ++ l) (sym (ap entry_meanings e)) ∙ c.loop-scalars.invariant.made;
      room = omega (arith, c.loop-scalars.invariant.room, c.push_reserved.ensures.len, c.push_reserved.ensures.capacity, ap length e);
    }
