use Rattle.std.proofs.Common.{◌≡◌}
use Rattle.jdwp_layout.specs.Meanings.{entry_meaning, meanings}
use Rattle.jdwp_answer.specs.Shaped.{AreOnes, ones}
use Rattle.jdwp_answer.proofs.Fit.{none_are_ones, none_have}
use Rattle.jdwp_answer.proofs.fields.record_of.Goals as goal

pub returns-in-Ok-None : goal.returns-in-Ok-None
returns-in-Ok-None g c =
    let none : AreOnes (meanings c.args.items.items) → ⊥ = rw c.in-Ok-None.field-0-is at c.in-Ok-None.ensures in
    none_are_ones g.R.Record.kinds (meanings c.args.items.items) none

pub returns-in-None : goal.returns-in-None
returns-in-None g c =
    let are : ones (entry_meaning c.in-Ok-Some.scalars) ≡ meanings c.args.items.items = rw c.in-Ok-Some.field-0-is at c.in-Ok-Some.ensures in
    none_have g.R.Record.kinds (meanings c.args.items.items) (entry_meaning c.in-Ok-Some.scalars) are c.in-None.ensures
