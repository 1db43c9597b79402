use Rattle.std.proofs.Common.{◌<◌, ◌∙◌, ap, sym, subst, length, map}
use Rattle.std.specs.List.{All}
use Rattle.levels.specs.Counts.{Counts, count_most, standing}
use Rattle.levels.specs.Levels.{EntryList, Risen, count_at, running}
use Rattle.levels.proofs.Moving.{raised-right, raised-counts, raised-visits}
use Rattle.levels.proofs.Putting.{same-room}
use Rattle.levels.proofs.counts.Counts.raise_all.Goals as goal

pub invariant_of-self : goal.invariant_of-self
invariant_of-self c =
    let i = c.self.inside in
    let risen : Risen i.suspended i.base (length i.order.list) i.entries.list i.order.list c.rise.new.lent.entries.now.list c.rise.new.order.list = rw (← c.of-lent.ensures.entries) c.rise.ensures.risen in
    let below : All (λ n. n < count_most) (map (count_at i.base) i.entries.list) = subst (λ (x : Counts). All (λ n. n < count_most) x.counts) (sym c.self.view_is) c.requires in
    let right = raised-right i.suspended i.base i.entries.list c.rise.new.lent.entries.now.list i.order.list c.rise.new.order.list c.self.invariant c.self.invariant.based below risen in
    rw c.before-self-inside.ensures (rw c.len-self-inside.ensures right)

pub returns-clause-counts : goal.returns-clause-counts
returns-clause-counts c =
    let i = c.self.inside in
    let risen : Risen i.suspended i.base (length i.order.list) i.entries.list i.order.list c.rise.new.lent.entries.now.list c.rise.new.order.list = rw (← c.of-lent.ensures.entries) c.rise.ensures.risen in
    let counts = raised-counts i.suspended i.base i.entries.list c.rise.new.lent.entries.now.list i.order.list c.rise.new.order.list c.self.invariant c.self.invariant.based risen in
    rw (← c.self.view_is) (rw c.before-self-inside.ensures counts)

pub returns-clause-visits : goal.returns-clause-visits
returns-clause-visits c =
    let i = c.self.inside in
    c.rise.ensures.visits ∙ ap (λ (x : EntryList). running x.list) c.of-lent.ensures.entries ∙ raised-visits i.suspended i.base i.entries.list i.order.list c.self.invariant ∙ ap (λ (x : Counts). standing 0 x.counts) c.self.view_is

pub returns-clause-capacity : goal.returns-clause-capacity
returns-clause-capacity c =
    let i = c.self.inside in
    let entries = c.rise.ensures.capacity ∙ ap (λ (x : EntryList). x.capacity) c.of-lent.ensures.entries in
    same-room i.entries.capacity c.rise.new.lent.entries.now.capacity i.order.capacity c.rise.new.order.capacity entries c.rise.ensures.room ∙ ap (λ (x : Counts). x.capacity) c.self.view_is
