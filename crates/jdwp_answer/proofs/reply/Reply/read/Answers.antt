use Rattle.std.proofs.Common.{List, subst}
use Rattle.jdwp_layout.specs.Grammar.{EncodesData}
use Rattle.jdwp_layout.specs.Meanings.{meanings}
use Rattle.jdwp_layout.specs.Shapes.{ItemShape}
use Rattle.jdwp_answer.specs.Shaped.{HasItems}
use Rattle.jdwp_answer.proofs.Fit.{encoded_fits}
use Rattle.jdwp_answer.proofs.reply.Reply.read.Goals as goal

pub unreachable-requires : goal.unreachable-requires
unreachable-requires g c =
    let xs = meanings c.in-Ok.items.items in
    let none : HasItems g.Self.Reply.shape xs → ⊥ = rw c.in-Ok-None.field-0-is at c.in-Ok-None.ensures in
    let found : EncodesData c.args.sizes.now g.Self.Reply.shape xs c.args.bytes.now =
    subst (λ (s : List ItemShape). EncodesData c.args.sizes.now s xs c.args.bytes.now) c.layout.ensures c.in-Ok.ensures.found in
    none (encoded_fits c.args.sizes.now g.Self.Reply.shape xs c.args.bytes.now found)

pub returns-in-Err-of_items-clause-hides : goal.returns-in-Err-of_items-clause-hides
returns-in-Err-of_items-clause-hides g c = λ failed.
    let xs = meanings c.in-Ok.items.items in
    (xs, subst (λ (s : List ItemShape). EncodesData c.args.sizes.now s xs c.args.bytes.now) c.layout.ensures c.in-Ok.ensures.found)
