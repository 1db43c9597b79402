use Rattle.std.proofs.Common.{◌≡◌, ℕ, List, subst}
use Rattle.jdwp_layout.specs.Meanings.{DatumMeaning, meanings}
use Rattle.jdwp_layout.specs.Shapes.{ItemShape, shape}
use Rattle.jdwp_wire.specs.Widths.{Widths}
use Rattle.jdwp_plan_run.specs.Asking.{IsReadAs}
use Rattle.jdwp_plan_run.proofs.AskLaws.{if-ok}
use Rattle.jdwp_plan_run.proofs.asking.items_of.Goals as goal

read-as : (sizes : Widths) (layout : List ItemShape) (passed text : List ℕ) (items : List DatumMeaning) → passed ≡ text → IsReadAs sizes layout passed items → IsReadAs sizes layout text items
read-as sizes layout passed text items same h = subst (λ (t : List ℕ). IsReadAs sizes layout t items) same h

pub returns-in-Ok-clause-ok : goal.returns-in-Ok-clause-ok
returns-in-Ok-clause-ok c =
    if-ok c.items_in.result
    (λ items h. read-as c.args.sizes.now (shape c.args.layout.now) c.in-Ok.text.now c.args.text.now (meanings items.items) c.in-Ok.ensures.cases.0 h) c.items_in.ensures.ok
