use Rattle.std.proofs.Common.{◌≡◌, ◌∙◌, ◌<◌, length, drop, get_or, sym, subst, arith, List, Result, Ok, Err}
use Rattle.std.specs.Prelude.{IfErr}
use Rattle.jdwp_event.specs.Requests.{Request}
use Rattle.jdwp_event.specs.RequestLists.{AreRising, placed}
use Rattle.jdwp_event.specs.KindsAsked.{AreAsked}
use Rattle.jdwp_event.proofs.Rising.{StartsPast, absent, past, placed_there, placed_between, placed_rising}
use Rattle.jdwp_event.proofs.requests.Requests.insert.Goals as goal
use Rattle.jdwp_event.proofs.requests.Requests.insert.Goals.{else-place-len-via-then-place-len+else-id, else-place-len-via-else-place-len}

pub invariant_of-self : goal.invariant_of-self
invariant_of-self c =
    let below = rw (c.deref.ensures.value, c.id.ensures.is) at c.place_for-place.ensures.below in
    let lt : c.place_for-place.result < length c.self.inside.entries.items = omega arith in
    let same : (get_or c.self.inside.entries.items c.place_for-place.result c.index.result.now).asked.id ≡ c.args.request.asked.id = rw (← c.index.ensures) (sym c.id-then-place-len.ensures.is ∙ (c.if-id.true ∙ c.id-then-place-len-2.ensures.is)) in (
      subst (λ (xs : List Request). AreRising xs) (sym (placed_there c.args.request c.self.inside.entries.items c.place_for-place.result c.index.result.now lt below same)) (placed_rising c.args.request c.self.inside.entries.items c.self.invariant.0),
      subst (λ (xs : List Request). AreAsked c.asked_by-self-inside.result xs) c.deref-then-id.ensures.value c.asked_by-self-inside.ensures,
    )

pub returns-then-id-clause-ok : goal.returns-then-id-clause-ok
returns-then-id-clause-ok c =
    let below = rw (c.deref.ensures.value, c.id.ensures.is) at c.place_for-place.ensures.below in
    let lt : c.place_for-place.result < length c.self.inside.entries.items = omega arith in
    let same : (get_or c.self.inside.entries.items c.place_for-place.result c.index.result.now).asked.id ≡ c.args.request.asked.id = rw (← c.index.ensures) (sym c.id-then-place-len.ensures.is ∙ (c.if-id.true ∙ c.id-then-place-len-2.ensures.is)) in
    rw (← c.self.view_is) (placed_there c.args.request c.self.inside.entries.items c.place_for-place.result c.index.result.now lt below same)

pub returns-clause-ok : goal.returns-clause-ok
returns-clause-ok c =
    let below = rw (c.deref.ensures.value, c.id.ensures.is) at c.place_for-place.ensures.below in
    let above = rw (c.deref.ensures.value, c.id.ensures.is) at c.place_for-place.ensures.above in
    rw (← c.self.view_is) (elim c.else-place-len.branch [
      | else-place-len-via-then-place-len+else-id w ↦ c.in_ok-insert.ensures.items ∙ placed_between c.args.request c.self.inside.entries.items c.place_for-place.result w.index.result.now below above
          (λ lt e. let f : w.index.result.now.asked.id ≡ c.args.request.asked.id = rw (w.index.ensures) e in w.if-id.false (w.id-then-place-len.ensures.is ∙ (f ∙ sym w.id-then-place-len-2.ensures.is)))
      | else-place-len-via-else-place-len w ↦ c.in_ok-insert.ensures.items ∙ placed_between c.args.request c.self.inside.entries.items c.place_for-place.result c.args.request below above (λ lt e. absurd (omega arith))
    ])

pub invariant_of-self-2 : goal.invariant_of-self-2
invariant_of-self-2 c =
    let e : c.insert.new.self.items ≡ placed c.args.request c.self.inside.entries.items = rw c.self.view_is (returns-clause-ok c) in (
      subst (λ (xs : List Request). AreRising xs) (sym e) (placed_rising c.args.request c.self.inside.entries.items c.self.invariant.0),
      subst (λ (xs : List Request). AreAsked c.asked_by-self-inside-2.result xs) c.deref-2.ensures.value c.asked_by-self-inside-2.ensures,
    )

if_err : {X E : Type 0} (P : Type 0) (r : Result X E) → P → IfErr r (λ _. P)
if_err P (Ok x) p = tt
if_err P (Err e) p = p

pub returns-in_err-insert-clause-memory : goal.returns-in_err-insert-clause-memory
returns-in_err-insert-clause-memory c =
    let below = rw (c.deref.ensures.value, c.id.ensures.is) at c.place_for-place.ensures.below in
    let above = rw (c.deref.ensures.value, c.id.ensures.is) at c.place_for-place.ensures.above in
    let list = c.self.inside.entries.items in
    let id = c.args.request.asked.id in
    let p = c.place_for-place.result in
    let starts : StartsPast id (drop p list) = elim c.else-place-len.branch [
      | else-place-len-via-then-place-len+else-id w ↦ past id list p w.index.result.now above
          (λ lt e. let f : w.index.result.now.asked.id ≡ id = rw (w.index.ensures) e in w.if-id.false (w.id-then-place-len.ensures.is ∙ (f ∙ sym w.id-then-place-len-2.ensures.is)))
      | else-place-len-via-else-place-len w ↦ past id list p c.args.request above (λ lt e. absurd (omega arith))
    ] in
    rw (← c.self.view_is) (if_err _ c.from_residual.result (absent id list p c.self.invariant.0 below starts))
