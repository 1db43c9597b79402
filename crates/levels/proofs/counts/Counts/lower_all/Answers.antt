use Rattle.std.proofs.Common.{◌≡◌, ◌∙◌, ap, arith, map, ◌+◌}
use Rattle.levels.specs.Counts.{Counts, standing}
use Rattle.levels.specs.Levels.{EntryList, Fallen, StopsAt, after, at_base, count_at}
use Rattle.levels.proofs.Moving.{lowered-right, lowered-counts, at-base-old, at-base-new}
use Rattle.levels.proofs.Putting.{same-room}
use Rattle.levels.proofs.counts.Counts.lower_all.Goals as goal

pub invariant_of-self : goal.invariant_of-self
invariant_of-self c =
    let i = c.self.inside in
    let fallen : Fallen i.suspended c.fall-suspended.result i.entries.list c.fall-suspended.new.lent.entries.now.list = rw (← c.of-lent.ensures.entries) c.fall-suspended.ensures.fallen in
    let stops : StopsAt (after i.base) i.suspended c.fall-suspended.result i.order.list = rw (← c.after-base.ensures) c.fall-suspended.ensures.stops in
    rw (c.after-base.ensures, c.fall-suspended.ensures.order) (lowered-right i.base i.suspended c.fall-suspended.result i.entries.list c.fall-suspended.new.lent.entries.now.list i.order.list c.self.invariant stops fallen)

pub returns-clause-counts : goal.returns-clause-counts
returns-clause-counts c =
    let i = c.self.inside in
    let fallen : Fallen i.suspended c.fall-suspended.result i.entries.list c.fall-suspended.new.lent.entries.now.list = rw (← c.of-lent.ensures.entries) c.fall-suspended.ensures.fallen in
    let stops : StopsAt (after i.base) i.suspended c.fall-suspended.result i.order.list = rw (← c.after-base.ensures) c.fall-suspended.ensures.stops in
    rw (← c.self.view_is) (rw c.after-base.ensures (lowered-counts i.base i.suspended c.fall-suspended.result i.entries.list c.fall-suspended.new.lent.entries.now.list i.order.list c.self.invariant stops fallen))

pub returns-clause-visits : goal.returns-clause-visits
returns-clause-visits c =
    let i = c.self.inside in
    let es1 = c.fall-suspended.new.lent.entries.now.list in
    let fallen : Fallen i.suspended c.fall-suspended.result i.entries.list es1 = rw (← c.of-lent.ensures.entries) c.fall-suspended.ensures.fallen in
    let stops : StopsAt (after i.base) i.suspended c.fall-suspended.result i.order.list = rw (← c.after-base.ensures) c.fall-suspended.ensures.stops in
    let v = c.fall-suspended.new.lent.visits.now in
    let all : v + at_base (after i.base) es1 ≡ at_base (after i.base) i.entries.list = rw (← c.after-base.ensures) (rw (← c.of-lent.ensures.entries) c.fall-suspended.ensures.visits) in
    let old : at_base (after i.base) i.entries.list ≡ standing 1 (map (count_at i.base) i.entries.list) = at-base-old i.base i.suspended i.entries.list i.order.list c.self.invariant in
    let new : at_base (after i.base) es1 ≡ 0 = at-base-new i.base i.suspended c.fall-suspended.result i.entries.list es1 i.order.list c.self.invariant stops fallen in
    let sum : v ≡ standing 1 (map (count_at i.base) i.entries.list) = omega arith in
    sum ∙ ap (λ (x : Counts). standing 1 x.counts) c.self.view_is

pub returns-clause-capacity : goal.returns-clause-capacity
returns-clause-capacity c =
    let i = c.self.inside in
    let entries = c.fall-suspended.ensures.capacity ∙ ap (λ (x : EntryList). x.capacity) c.of-lent.ensures.entries in
    same-room i.entries.capacity c.fall-suspended.new.lent.entries.now.capacity i.order.capacity c.fall-suspended.new.order.capacity entries c.fall-suspended.ensures.room ∙ ap (λ (x : Counts). x.capacity) c.self.view_is
