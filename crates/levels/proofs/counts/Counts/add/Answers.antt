use Rattle.std.proofs.Common.{◌<◌, ◌+◌, ◌^◌, ◌∙◌, ap, sym, subst, length, map, ℕ}
use Rattle.std.proofs.lemmas.List.{length-map}
use Rattle.levels.specs.Counts.{Counts}
use Rattle.levels.specs.Levels.{EntryList, RankList, count_at}
use Rattle.levels.proofs.Adding.{added-right}
use Rattle.levels.proofs.counts.Counts.add.Goals as goal

pub invariant_of-self : goal.invariant_of-self
invariant_of-self c =
    let i = c.self.inside in
    let short : length (map (count_at i.base) i.entries.list) + 1 < 2 ^ 32 = subst (λ (x : Counts). length x.counts + 1 < 2 ^ 32) (sym c.self.view_is) c.requires.few in
    let few : length i.order.list + 1 < 2 ^ 32 = subst (λ (n : ℕ). n + 1 < 2 ^ 32) (length-map i.entries.list (count_at i.base) ∙ sym c.self.invariant.linked.same) short in
    let right = added-right i.base i.suspended i.entries.list i.order.list c.self.invariant few in
    rw (ap (λ (x : EntryList). x.list) c.add.ensures) (rw (ap (λ (x : RankList). x.list) c.add-2.ensures) (rw c.len-last.ensures right))
