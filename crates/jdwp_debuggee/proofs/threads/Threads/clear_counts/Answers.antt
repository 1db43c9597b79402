use Rattle.std.proofs.Common.{◌∙◌, ap, refl}
use Rattle.levels.specs.Counts as levels
use Rattle.levels.specs.Counts.{Counts}
use Rattle.jdwp_debuggee.specs.Entries.{threads_of}
use Rattle.jdwp_debuggee.specs.State.{cleared}
use Rattle.jdwp_debuggee.proofs.EntryLists.{threads-mapped}
use Rattle.jdwp_debuggee.proofs.threads.Threads.clear_counts.Goals as goal

pub returns-clause-list : goal.returns-clause-list
returns-clause-list c =
    let i = c.self.inside in
    rw (← c.self.view_is) (ap (λ (x : Counts). threads_of i.entries.items x.counts) c.clear.ensures ∙ threads-mapped cleared levels.none i.entries.items i.counts.counts (λ t n. refl) c.self.invariant)
