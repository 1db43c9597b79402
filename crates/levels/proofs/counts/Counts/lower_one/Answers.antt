use Rattle.std.proofs.Common.{◌<◌, ◌∙◌, ap, sym, subst, length}
use Rattle.std.specs.Prelude.{min}
use Rattle.levels.specs.Counts.{Counts}
use Rattle.levels.specs.Levels.{EntryList, above, before}
use Rattle.levels.proofs.Putting.{lowered-call, put-from, same-room, stopped-call}
use Rattle.levels.proofs.counts.Counts.lower_one.Goals as goal

pub invariant_of-self : goal.invariant_of-self
invariant_of-self c =
    let i = c.self.inside in
    let within = subst (λ (x : Counts). c.args.place < length x.counts) (sym c.self.view_is) c.requires.within in
    let all = stopped-call i.base i.suspended i.visits (min i.entries.capacity i.order.capacity) (min c.put.new.self.capacity c.put.new.order.capacity) c.args.place c.split-to.result c.above-count.result c.before-level.result c.at-entry.result i.entries.list c.put.new.self.list i.order.list c.put.new.order.list (same-room i.entries.capacity c.put.new.self.capacity i.order.capacity c.put.new.order.capacity (c.put.ensures.capacity ∙ ap (λ (x : EntryList). x.capacity) c.at-entry.ensures.after) (c.put.ensures.room ∙ c.split-to.ensures.capacity)) c.self.invariant within c.at-entry.ensures.value
    (sym c.is_suspended.ensures ∙ c.if-is_suspended.true) (c.above-count.ensures ∙ ap (above i.base) c.level.ensures) c.if-count-eq1.true c.split-to.ensures.splits (c.before-level.ensures ∙ ap before c.level-then-is_suspended.ensures) (put-from _ _ _ _ _ _ _ _ _ _ (ap (λ (x : EntryList). x.list) c.at-entry.ensures.after) c.split-to.ensures.same c.put.ensures.is) in
    all.0

pub invariant_of-self-else-count-eq1 : goal.invariant_of-self-else-count-eq1
invariant_of-self-else-count-eq1 c =
    let i = c.self.inside in
    let within = subst (λ (x : Counts). c.args.place < length x.counts) (sym c.self.view_is) c.requires.within in
    let all = lowered-call i.base i.suspended i.visits (min i.entries.capacity i.order.capacity) (min c.put.new.self.capacity c.put.new.order.capacity) c.args.place c.split-to.result c.above-count.result c.before-level.result c.at-entry.result i.entries.list c.put.new.self.list i.order.list c.put.new.order.list (same-room i.entries.capacity c.put.new.self.capacity i.order.capacity c.put.new.order.capacity (c.put.ensures.capacity ∙ ap (λ (x : EntryList). x.capacity) c.at-entry.ensures.after) (c.put.ensures.room ∙ c.split-to.ensures.capacity)) c.self.invariant within c.at-entry.ensures.value
    (sym c.is_suspended.ensures ∙ c.if-is_suspended.true) (c.above-count.ensures ∙ ap (above i.base) c.level.ensures) c.if-count-eq1.false c.split-to.ensures.splits (c.before-level.ensures ∙ ap before c.level-then-is_suspended.ensures) (put-from _ _ _ _ _ _ _ _ _ _ (ap (λ (x : EntryList). x.list) c.at-entry.ensures.after) c.split-to.ensures.same c.put.ensures.is) in
    all.0

pub returns-then-count-eq1 : goal.returns-then-count-eq1
returns-then-count-eq1 c =
    let i = c.self.inside in
    let within = subst (λ (x : Counts). c.args.place < length x.counts) (sym c.self.view_is) c.requires.within in
    let all = stopped-call i.base i.suspended i.visits (min i.entries.capacity i.order.capacity) (min c.put.new.self.capacity c.put.new.order.capacity) c.args.place c.split-to.result c.above-count.result c.before-level.result c.at-entry.result i.entries.list c.put.new.self.list i.order.list c.put.new.order.list (same-room i.entries.capacity c.put.new.self.capacity i.order.capacity c.put.new.order.capacity (c.put.ensures.capacity ∙ ap (λ (x : EntryList). x.capacity) c.at-entry.ensures.after) (c.put.ensures.room ∙ c.split-to.ensures.capacity)) c.self.invariant within c.at-entry.ensures.value
    (sym c.is_suspended.ensures ∙ c.if-is_suspended.true) (c.above-count.ensures ∙ ap (above i.base) c.level.ensures) c.if-count-eq1.true c.split-to.ensures.splits (c.before-level.ensures ∙ ap before c.level-then-is_suspended.ensures) (put-from _ _ _ _ _ _ _ _ _ _ (ap (λ (x : EntryList). x.list) c.at-entry.ensures.after) c.split-to.ensures.same c.put.ensures.is) in
    rw (← c.self.view_is) all.1

pub returns-else-count-eq1 : goal.returns-else-count-eq1
returns-else-count-eq1 c =
    let i = c.self.inside in
    let within = subst (λ (x : Counts). c.args.place < length x.counts) (sym c.self.view_is) c.requires.within in
    let all = lowered-call i.base i.suspended i.visits (min i.entries.capacity i.order.capacity) (min c.put.new.self.capacity c.put.new.order.capacity) c.args.place c.split-to.result c.above-count.result c.before-level.result c.at-entry.result i.entries.list c.put.new.self.list i.order.list c.put.new.order.list (same-room i.entries.capacity c.put.new.self.capacity i.order.capacity c.put.new.order.capacity (c.put.ensures.capacity ∙ ap (λ (x : EntryList). x.capacity) c.at-entry.ensures.after) (c.put.ensures.room ∙ c.split-to.ensures.capacity)) c.self.invariant within c.at-entry.ensures.value
    (sym c.is_suspended.ensures ∙ c.if-is_suspended.true) (c.above-count.ensures ∙ ap (above i.base) c.level.ensures) c.if-count-eq1.false c.split-to.ensures.splits (c.before-level.ensures ∙ ap before c.level-then-is_suspended.ensures) (put-from _ _ _ _ _ _ _ _ _ _ (ap (λ (x : EntryList). x.list) c.at-entry.ensures.after) c.split-to.ensures.same c.put.ensures.is) in
    rw (← c.self.view_is) all.1
