use Rattle.std.proofs.Common.{ℕ, ap, refl, ◌∙◌, arith}
use Rattle.std.specs.BTreeMap.{get}
use Rattle.std.specs.Ordering.{nat_cmp}
use Rattle.jdwp_recording.specs.declared.assembly.Piece.{Piece}
use Rattle.jdwp_recording.proofs.AssemblyLaws.{nothing_kept, far_off, pops, same_first}
use Rattle.jdwp_recording.proofs.assembly.Assembly.next.Goals as goal

pub returns-in_default-clause-none : goal.returns-in_default-clause-none
returns-in_default-clause-none c = λ parts bytes st. nothing_kept parts bytes c.args.self.now (λ more. let e = c.in_default.ensures.variant.1 more in cc) st

pub returns-then-first-self-clause-none : goal.returns-then-first-self-clause-none
returns-then-first-self-clause-none c = λ parts bytes st. far_off parts bytes c.args.self.now _ _ c.in-Some.ensures.value c.in-Some.ensures.least c.if-first-self.true st

pub returns-in_default-pop_first-clause-none : goal.returns-in_default-pop_first-clause-none
returns-in_default-pop_first-clause-none c = λ parts bytes st. let e = c.in_default-pop_first.ensures.variant.1 (c.in-Some.ensures.variant.0 refl) in cc

pub returns-clause-some : goal.returns-clause-some
returns-clause-some c = λ parts bytes st.
    let popped = c.in-Some-pop_first.ensures in
    let same = same_first c.args.self.now.ahead.entries c.pop_first.new.self.entries _ _ popped.removal c.in-Some.ensures.first in
    let places = ap (λ (e : ℕ × Piece). e.1.place) same in
    let near = c.if-first-self.false in
    pops parts bytes c.join.result.now c.args.self.now c.join.new.self _ c.in-Some-pop_first.piece popped.value
    (λ q. ap (λ m. get nat_cmp m q) c.join.ensures.ahead ∙ popped.updates.0 q)
    (record { place = omega arith; fresh_is = c.join.ensures.fresh; known = c.join.ensures.known }) st
