use Rattle.std.proofs.Common.{◌∙◌, ap, refl, sym, List, ℕ}
use Rattle.levels.specs.Counts as levels
use Rattle.jdwp_debuggee.specs.Entries.{threads_of}
use Rattle.jdwp_debuggee.specs.State.{Thread, raised}
use Rattle.jdwp_debuggee.specs.Visits.{turned}
use Rattle.jdwp_debuggee.proofs.EntryLists.{all-below, threads-mapped, turned-raised}
use Rattle.jdwp_debuggee.proofs.threads.Threads.raise_all.Goals as goal

pub raise_all-requires : goal.raise_all-requires
raise_all-requires c = all-below c.self.inside.entries.items c.self.inside.counts.counts c.self.invariant (rw (← c.self.view_is) at c.requires)

pub returns-clause-list : goal.returns-clause-list
returns-clause-list c =
    let i = c.self.inside in
    rw (← c.self.view_is) (ap (λ (ns : List ℕ). threads_of i.entries.items ns) c.raise_all.ensures.counts ∙ threads-mapped raised levels.raised i.entries.items i.counts.counts (λ t n. refl) c.self.invariant)

pub returns-clause-visits : goal.returns-clause-visits
returns-clause-visits c =
    let i = c.self.inside in
    let list = ap (λ (ns : List ℕ). threads_of i.entries.items ns) c.raise_all.ensures.counts ∙ threads-mapped raised levels.raised i.entries.items i.counts.counts (λ t n. refl) c.self.invariant in
    rw (← c.self.view_is) (c.raise_all.ensures.visits ∙ (turned-raised i.entries.items i.counts.counts c.self.invariant ∙ ap (λ (l : List Thread). turned (threads_of i.entries.items i.counts.counts) l) (sym list)))
