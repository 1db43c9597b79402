use Rattle.std.proofs.Common.{◌≡◌, ◌<◌, ◌∙◌, ap, arith, sym, subst, length, ℕ}
use Rattle.std.specs.Prelude.{min}
use Rattle.std.specs.List.{remove}
use Rattle.std.proofs.lemmas.List.{length-map}
use Rattle.levels.specs.declared.entries.Entry.{Entry}
use Rattle.levels.specs.Counts.{Counts}
use Rattle.levels.specs.Levels.{ArePlacesClosed, AreRanksClosed, EntryList, IsRight, RankList, count_at, entry_at}
use Rattle.levels.proofs.Putting.{same-room}
use Rattle.levels.proofs.Removing.{left-less, left-same, removed-right, removed-view}
use Rattle.levels.proofs.counts.Counts.remove.Goals as goal

pub invariant_of-self : goal.invariant_of-self
invariant_of-self c =
    let i = c.self.inside in
    let k = c.args.place in
    let inside : k < length i.entries.list = subst (λ (n : ℕ). k < n) (length-map i.entries.list (count_at i.base)) (subst (λ (x : Counts). k < length x.counts) (sym c.self.view_is) c.requires) in
    let g : c.rank-gone.result ≡ (entry_at i.entries.list k).rank = c.rank-gone.ensures ∙ ap (λ (x : Entry). x.rank) c.at-entry.ensures.value in
    let es1 = c.close_ranks.new.self.list in
    let ranks : AreRanksClosed (entry_at i.entries.list k).rank (remove i.entries.list k) es1 = subst (λ (n : ℕ). AreRanksClosed n (remove i.entries.list k) es1) g (subst (λ (x : EntryList). AreRanksClosed c.rank-gone.result (remove x.list k) es1) c.at-entry.ensures.after (subst (λ (x : EntryList). AreRanksClosed c.rank-gone.result x.list es1) c.remove.ensures c.close_ranks.ensures.closed)) in
    let rs1 = c.close_places.new.self.list in
    let places : ArePlacesClosed k (remove i.order.list (entry_at i.entries.list k).rank) rs1 = subst (λ (n : ℕ). ArePlacesClosed k (remove i.order.list n) rs1) g (subst (λ (x : RankList). ArePlacesClosed k x.list rs1) c.remove-2.ensures c.close_places.ensures.closed) in
    let right = removed-right i.base i.suspended k i.entries.list es1 i.order.list rs1 c.self.invariant inside ranks places in
    let test = c.if-gone-self.true in
    subst (λ (n : ℕ). IsRight i.base es1 rs1 n) (left-less (entry_at i.entries.list k).rank i.suspended (omega arith)) right

pub invariant_of-self-else-gone-self : goal.invariant_of-self-else-gone-self
invariant_of-self-else-gone-self c =
    let i = c.self.inside in
    let k = c.args.place in
    let inside : k < length i.entries.list = subst (λ (n : ℕ). k < n) (length-map i.entries.list (count_at i.base)) (subst (λ (x : Counts). k < length x.counts) (sym c.self.view_is) c.requires) in
    let g : c.rank-gone.result ≡ (entry_at i.entries.list k).rank = c.rank-gone.ensures ∙ ap (λ (x : Entry). x.rank) c.at-entry.ensures.value in
    let es1 = c.close_ranks.new.self.list in
    let ranks : AreRanksClosed (entry_at i.entries.list k).rank (remove i.entries.list k) es1 = subst (λ (n : ℕ). AreRanksClosed n (remove i.entries.list k) es1) g (subst (λ (x : EntryList). AreRanksClosed c.rank-gone.result (remove x.list k) es1) c.at-entry.ensures.after (subst (λ (x : EntryList). AreRanksClosed c.rank-gone.result x.list es1) c.remove.ensures c.close_ranks.ensures.closed)) in
    let rs1 = c.close_places.new.self.list in
    let places : ArePlacesClosed k (remove i.order.list (entry_at i.entries.list k).rank) rs1 = subst (λ (n : ℕ). ArePlacesClosed k (remove i.order.list n) rs1) g (subst (λ (x : RankList). ArePlacesClosed k x.list rs1) c.remove-2.ensures c.close_places.ensures.closed) in
    let right = removed-right i.base i.suspended k i.entries.list es1 i.order.list rs1 c.self.invariant inside ranks places in
    let test = c.if-gone-self.false in
    subst (λ (n : ℕ). IsRight i.base es1 rs1 n) (left-same (entry_at i.entries.list k).rank i.suspended (omega arith)) right

pub returns-then-gone-self : goal.returns-then-gone-self
returns-then-gone-self c =
    let i = c.self.inside in
    let k = c.args.place in
    let inside : k < length i.entries.list = subst (λ (n : ℕ). k < n) (length-map i.entries.list (count_at i.base)) (subst (λ (x : Counts). k < length x.counts) (sym c.self.view_is) c.requires) in
    let g : c.rank-gone.result ≡ (entry_at i.entries.list k).rank = c.rank-gone.ensures ∙ ap (λ (x : Entry). x.rank) c.at-entry.ensures.value in
    let es1 = c.close_ranks.new.self.list in
    let ranks : AreRanksClosed (entry_at i.entries.list k).rank (remove i.entries.list k) es1 = subst (λ (n : ℕ). AreRanksClosed n (remove i.entries.list k) es1) g (subst (λ (x : EntryList). AreRanksClosed c.rank-gone.result (remove x.list k) es1) c.at-entry.ensures.after (subst (λ (x : EntryList). AreRanksClosed c.rank-gone.result x.list es1) c.remove.ensures c.close_ranks.ensures.closed)) in
    let entries = c.close_ranks.ensures.capacity ∙ ap (λ (x : EntryList). x.capacity) c.remove.ensures ∙ ap (λ (x : EntryList). x.capacity) c.at-entry.ensures.after in
    let order = c.close_places.ensures.capacity ∙ ap (λ (x : RankList). x.capacity) c.remove-2.ensures in
    let room = same-room i.entries.capacity c.close_ranks.new.self.capacity i.order.capacity c.close_places.new.self.capacity entries order in
    rw (← c.self.view_is) (removed-view i.base i.visits (min i.entries.capacity i.order.capacity) (min c.close_ranks.new.self.capacity c.close_places.new.self.capacity) (entry_at i.entries.list k).rank k i.entries.list es1 room inside ranks)

pub returns-else-gone-self : goal.returns-else-gone-self
returns-else-gone-self c =
    let i = c.self.inside in
    let k = c.args.place in
    let inside : k < length i.entries.list = subst (λ (n : ℕ). k < n) (length-map i.entries.list (count_at i.base)) (subst (λ (x : Counts). k < length x.counts) (sym c.self.view_is) c.requires) in
    let g : c.rank-gone.result ≡ (entry_at i.entries.list k).rank = c.rank-gone.ensures ∙ ap (λ (x : Entry). x.rank) c.at-entry.ensures.value in
    let es1 = c.close_ranks.new.self.list in
    let ranks : AreRanksClosed (entry_at i.entries.list k).rank (remove i.entries.list k) es1 = subst (λ (n : ℕ). AreRanksClosed n (remove i.entries.list k) es1) g (subst (λ (x : EntryList). AreRanksClosed c.rank-gone.result (remove x.list k) es1) c.at-entry.ensures.after (subst (λ (x : EntryList). AreRanksClosed c.rank-gone.result x.list es1) c.remove.ensures c.close_ranks.ensures.closed)) in
    let entries = c.close_ranks.ensures.capacity ∙ ap (λ (x : EntryList). x.capacity) c.remove.ensures ∙ ap (λ (x : EntryList). x.capacity) c.at-entry.ensures.after in
    let order = c.close_places.ensures.capacity ∙ ap (λ (x : RankList). x.capacity) c.remove-2.ensures in
    let room = same-room i.entries.capacity c.close_ranks.new.self.capacity i.order.capacity c.close_places.new.self.capacity entries order in
    rw (← c.self.view_is) (removed-view i.base i.visits (min i.entries.capacity i.order.capacity) (min c.close_ranks.new.self.capacity c.close_places.new.self.capacity) (entry_at i.entries.list k).rank k i.entries.list es1 room inside ranks)
