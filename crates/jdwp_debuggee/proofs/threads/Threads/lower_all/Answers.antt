use Rattle.std.proofs.Common.{◌∙◌, ap, refl, sym, List, ℕ}
use Rattle.levels.specs.Counts as levels
use Rattle.jdwp_debuggee.specs.Entries.{threads_of}
use Rattle.jdwp_debuggee.specs.State.{Thread, lowered}
use Rattle.jdwp_debuggee.specs.Visits.{turned}
use Rattle.jdwp_debuggee.proofs.EntryLists.{threads-mapped, turned-lowered}
use Rattle.jdwp_debuggee.proofs.threads.Threads.lower_all.Goals as goal

pub returns-clause-list : goal.returns-clause-list
returns-clause-list c =
    let i = c.self.inside in
    rw (← c.self.view_is) (ap (λ (ns : List ℕ). threads_of i.entries.items ns) c.lower_all.ensures.counts ∙ threads-mapped lowered levels.lowered i.entries.items i.counts.counts (λ t n. refl) c.self.invariant)

pub returns-clause-visits : goal.returns-clause-visits
returns-clause-visits c =
    let i = c.self.inside in
    let list = ap (λ (ns : List ℕ). threads_of i.entries.items ns) c.lower_all.ensures.counts ∙ threads-mapped lowered levels.lowered i.entries.items i.counts.counts (λ t n. refl) c.self.invariant in
    rw (← c.self.view_is) (c.lower_all.ensures.visits ∙ (turned-lowered i.entries.items i.counts.counts c.self.invariant ∙ ap (λ (l : List Thread). turned (threads_of i.entries.items i.counts.counts) l) (sym list)))
