use Rattle.std.proofs.Common.{◌≡◌, ◌∙◌, sym, refl, length, arith}
use Rattle.std.specs.Vec.{with_items}
use Rattle.std.proofs.lemmas.List.{with_items_is}
use Rattle.jdwp_event.specs.RequestParts.{origin_meaning}
use Rattle.jdwp_event.proofs.Limits.{count_all, count_some, count_none}
use Rattle.jdwp_event.proofs.request.Request.count.Goals as goal
use Rattle.jdwp_event.proofs.request.Request.count.Goals.{else-is_kind-via-then-is_kind+else-count_limits, else-is_kind-via-else-is_kind}

pub returns-in-Some : goal.returns-in-Some
returns-in-Some c =
    let k = rw c.occurrence-occurrence.ensures at c.is_kind.ensures in
    let e = rw c.occurrence-occurrence.ensures at c.in-Some.ensures in
    let n : length c.count_limits.new.limits ≡ c.self.inside.limits.len = omega arith in
    rw (← c.self.view_is) (count_all c.args.happening.now c.self.inside.id c.self.inside.kind c.self.inside.policy c.deref_mut.result.now c.self.inside.limits.items (with_items c.self.inside.limits c.count_limits.new.limits).items (origin_meaning c.self.inside.origin) (record { frames = c.in-Some.place.now.frames; line = c.in-Some.place.now.line })
    c.deref_mut.ensures.value (with_items_is c.self.inside.limits c.count_limits.new.limits n ∙ c.count_limits.ensures.reached) (sym k ∙ c.if-is_kind.true) (sym c.count_limits.ensures.passed ∙ c.if-count_limits.true) (rw (← e) refl))

pub returns-in_default : goal.returns-in_default
returns-in_default c =
    let k = rw c.occurrence-occurrence.ensures at c.is_kind.ensures in
    let e = rw c.occurrence-occurrence.ensures at c.in_default.ensures in
    let n : length c.count_limits.new.limits ≡ c.self.inside.limits.len = omega arith in
    rw (← c.self.view_is) (count_all c.args.happening.now c.self.inside.id c.self.inside.kind c.self.inside.policy c.deref_mut.result.now c.self.inside.limits.items (with_items c.self.inside.limits c.count_limits.new.limits).items (origin_meaning c.self.inside.origin) (origin_meaning c.self.inside.origin)
    c.deref_mut.ensures.value (with_items_is c.self.inside.limits c.count_limits.new.limits n ∙ c.count_limits.ensures.reached) (sym k ∙ c.if-is_kind.true) (sym c.count_limits.ensures.passed ∙ c.if-count_limits.true) (rw (← e) refl))

pub returns-else-is_kind : goal.returns-else-is_kind
returns-else-is_kind c =
    let k = rw c.occurrence-occurrence.ensures at c.is_kind.ensures in
    elim c.else-is_kind.branch [
      | else-is_kind-via-then-is_kind+else-count_limits w ↦ let n : length w.count_limits.new.limits ≡ c.self.inside.limits.len = omega arith in
          rw (w.self-is, ← c.self.view_is) (count_some c.args.happening.now c.self.inside.id c.self.inside.kind c.self.inside.policy w.deref_mut.result.now c.self.inside.limits.items (with_items c.self.inside.limits w.count_limits.new.limits).items (origin_meaning c.self.inside.origin)
          w.deref_mut.ensures.value (with_items_is c.self.inside.limits w.count_limits.new.limits n ∙ w.count_limits.ensures.reached) (sym k ∙ w.if-is_kind.true) (sym w.count_limits.ensures.passed ∙ w.if-count_limits.false))
      | else-is_kind-via-else-is_kind w ↦ rw (w.self-is, ← c.self.view_is) (count_none c.args.happening.now c.self.inside.id c.self.inside.kind c.self.inside.policy c.self.inside.limits.items (origin_meaning c.self.inside.origin) (sym k ∙ w.if-is_kind.false))
    ]
