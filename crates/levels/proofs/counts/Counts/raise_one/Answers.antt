use Rattle.std.proofs.Common.{◌<◌, ◌∙◌, ap, refl, sym, subst, length, get_or}
use Rattle.std.specs.Prelude.{min}
use Rattle.levels.specs.Counts.{Counts, count_most}
use Rattle.levels.specs.Levels.{EntryList, above, after}
use Rattle.levels.proofs.Putting.{put-from, raised-call, same-room, started-call}
use Rattle.levels.proofs.counts.Counts.raise_one.Goals as goal

pub invariant_of-self : goal.invariant_of-self
invariant_of-self c =
    let i = c.self.inside in
    let within = subst (λ (x : Counts). c.args.place < length x.counts) (sym c.self.view_is) c.requires.within in
    let below = subst (λ (x : Counts). get_or x.counts c.args.place 0 < count_most) (sym c.self.view_is) c.requires.below in
    let all = raised-call i.base i.suspended i.visits (min i.entries.capacity i.order.capacity) (min c.put.new.self.capacity c.put.new.order.capacity) c.args.place c.split-to.result c.above-more.result c.after-level.result c.at-entry.result i.entries.list c.put.new.self.list i.order.list c.put.new.order.list (same-room i.entries.capacity c.put.new.self.capacity i.order.capacity c.put.new.order.capacity (c.put.ensures.capacity ∙ ap (λ (x : EntryList). x.capacity) c.at-entry.ensures.after) (c.put.ensures.room ∙ c.split-to.ensures.capacity)) c.self.invariant within c.at-entry.ensures.value
    (sym c.is_suspended.ensures ∙ c.if-is_suspended.true) below (c.above-more.ensures ∙ ap (above i.base) c.level.ensures) c.split-to.ensures.splits (c.after-level.ensures ∙ ap after c.level-then-is_suspended.ensures) (put-from _ _ _ _ _ _ _ _ _ _ (ap (λ (x : EntryList). x.list) c.at-entry.ensures.after) c.split-to.ensures.same c.put.ensures.is) in
    all.0

pub invariant_of-self-else-is_suspended : goal.invariant_of-self-else-is_suspended
invariant_of-self-else-is_suspended c =
    let i = c.self.inside in
    let within = subst (λ (x : Counts). c.args.place < length x.counts) (sym c.self.view_is) c.requires.within in
    let all = started-call i.base i.suspended i.visits (min i.entries.capacity i.order.capacity) (min c.put-else-is_suspended.new.self.capacity c.put-else-is_suspended.new.order.capacity) c.args.place c.after-level-else-is_suspended.result c.at-entry.result i.entries.list c.put-else-is_suspended.new.self.list i.order.list c.put-else-is_suspended.new.order.list (same-room i.entries.capacity c.put-else-is_suspended.new.self.capacity i.order.capacity c.put-else-is_suspended.new.order.capacity (c.put-else-is_suspended.ensures.capacity ∙ ap (λ (x : EntryList). x.capacity) c.at-entry.ensures.after) c.put-else-is_suspended.ensures.room) c.self.invariant within c.at-entry.ensures.value
    (sym c.is_suspended.ensures ∙ c.if-is_suspended.false) c.after-level-else-is_suspended.ensures (put-from _ _ _ _ _ _ _ _ _ _ (ap (λ (x : EntryList). x.list) c.at-entry.ensures.after) refl c.put-else-is_suspended.ensures.is) in
    all.0

pub returns-then-is_suspended : goal.returns-then-is_suspended
returns-then-is_suspended c =
    let i = c.self.inside in
    let within = subst (λ (x : Counts). c.args.place < length x.counts) (sym c.self.view_is) c.requires.within in
    let below = subst (λ (x : Counts). get_or x.counts c.args.place 0 < count_most) (sym c.self.view_is) c.requires.below in
    let all = raised-call i.base i.suspended i.visits (min i.entries.capacity i.order.capacity) (min c.put.new.self.capacity c.put.new.order.capacity) c.args.place c.split-to.result c.above-more.result c.after-level.result c.at-entry.result i.entries.list c.put.new.self.list i.order.list c.put.new.order.list (same-room i.entries.capacity c.put.new.self.capacity i.order.capacity c.put.new.order.capacity (c.put.ensures.capacity ∙ ap (λ (x : EntryList). x.capacity) c.at-entry.ensures.after) (c.put.ensures.room ∙ c.split-to.ensures.capacity)) c.self.invariant within c.at-entry.ensures.value
    (sym c.is_suspended.ensures ∙ c.if-is_suspended.true) below (c.above-more.ensures ∙ ap (above i.base) c.level.ensures) c.split-to.ensures.splits (c.after-level.ensures ∙ ap after c.level-then-is_suspended.ensures) (put-from _ _ _ _ _ _ _ _ _ _ (ap (λ (x : EntryList). x.list) c.at-entry.ensures.after) c.split-to.ensures.same c.put.ensures.is) in
    rw (← c.self.view_is) all.1

pub returns-else-is_suspended : goal.returns-else-is_suspended
returns-else-is_suspended c =
    let i = c.self.inside in
    let within = subst (λ (x : Counts). c.args.place < length x.counts) (sym c.self.view_is) c.requires.within in
    let all = started-call i.base i.suspended i.visits (min i.entries.capacity i.order.capacity) (min c.put-else-is_suspended.new.self.capacity c.put-else-is_suspended.new.order.capacity) c.args.place c.after-level-else-is_suspended.result c.at-entry.result i.entries.list c.put-else-is_suspended.new.self.list i.order.list c.put-else-is_suspended.new.order.list (same-room i.entries.capacity c.put-else-is_suspended.new.self.capacity i.order.capacity c.put-else-is_suspended.new.order.capacity (c.put-else-is_suspended.ensures.capacity ∙ ap (λ (x : EntryList). x.capacity) c.at-entry.ensures.after) c.put-else-is_suspended.ensures.room) c.self.invariant within c.at-entry.ensures.value
    (sym c.is_suspended.ensures ∙ c.if-is_suspended.false) c.after-level-else-is_suspended.ensures (put-from _ _ _ _ _ _ _ _ _ _ (ap (λ (x : EntryList). x.list) c.at-entry.ensures.after) refl c.put-else-is_suspended.ensures.is) in
    rw (← c.self.view_is) all.1
