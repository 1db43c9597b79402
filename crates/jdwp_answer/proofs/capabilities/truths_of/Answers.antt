use Rattle.std.proofs.Common.{◌≡◌, ◌<◌, ◌≤◌, ◌∙◌, false, length, get_or, sym, ap, subst, arith}
use Rattle.std.proofs.lemmas.List.{get_or_default, length-replicate}
use Rattle.jdwp_layout.specs.declared.datum.Scalar.TheVariants as scalar
use Rattle.jdwp_layout.specs.Meanings.{scalar_meaning}
use Rattle.jdwp_layout.specs.Grammar.{kind_of}
use Rattle.jdwp_answer.proofs.Truths.{AreRead, each-boolean, read-all, read-one}
use Rattle.jdwp_answer.proofs.capabilities.truths_of.Goals as goal

pub loop-place-init : goal.loop-place-init
loop-place-init g c = record {
  same = length-replicate g.row.N false ∙ sym c.if-len.false ∙ c.len.ensures ∙ sym c.deref-scalar-items.ensures.len ∙ ap length c.deref-scalar-items.ensures.value;
  read = λ i h d. absurd (omega (arith, h));
}

pub returns-in-None-clause-value : goal.returns-in-None-clause-value
returns-in-None-clause-value g c = λ has.
    let items = c.args.scalars.items in
    let inside : c.loop-place.place < length items = rw (← c.deref-scalar-items.ensures.value) c.loop-place-test.true in
    let is : c.scalar-item.result ≡ get_or items c.loop-place.place c.scalar-item.result = rw (← c.deref-scalar-items.ensures.value) c.scalar-item.is in
    c.in-None.ensures (ap (λ s. kind_of (scalar_meaning s)) is ∙ each-boolean items g.row.N c.loop-place.place c.scalar-item.result inside has)

pub loop-place-preserved : goal.loop-place-preserved
loop-place-preserved g c =
    let items = c.args.scalars.items in
    let inside : c.loop-place.place < length items = rw (← c.deref-scalar-items.ensures.value) c.loop-place-test.true in
    let is : c.scalar-item.result ≡ get_or items c.loop-place.place c.scalar-item.result = rw (← c.deref-scalar-items.ensures.value) c.scalar-item.is in
    read-one items c.loop-place.truths c.loop-place.place c.in-Some.truth c.loop-place.invariant inside
    (λ d. c.in-Some.ensures ∙ ap scalar_meaning (is ∙ get_or_default items c.loop-place.place c.scalar-item.result d inside))

pub returns-clause-value : goal.returns-clause-value
returns-clause-value g c =
    let items = c.args.scalars.items in
    let all : c.loop-place.place ≡ length items = rw (← c.deref-scalar-items.ensures.value) (omega (arith, c.loop-place-test.false, c.loop-place.auto.place-end)) in
    read-all items c.loop-place.truths (scalar.Boolean false) (subst (λ n. AreRead items c.loop-place.truths n) all c.loop-place.invariant)

pub returns-clause-many : goal.returns-clause-many
returns-clause-many g c =
    c.loop-place.invariant.same ∙ ap length (sym c.deref-scalar-items.ensures.value) ∙ c.deref-scalar-items.ensures.len ∙ sym c.len.ensures ∙ c.if-len.false
