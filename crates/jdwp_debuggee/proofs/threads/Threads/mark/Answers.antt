use Rattle.std.proofs.Common.{◌≡◌, ◌∙◌, ap, arith, length, List}
use Rattle.std.proofs.lemmas.List.{with_items_is}
use Rattle.jdwp_debuggee.specs.Entries.{threads_of}
use Rattle.jdwp_debuggee.specs.declared.threads.ThreadEntry.{ThreadEntry}
use Rattle.jdwp_debuggee.proofs.EntryLists.{threads-marked}
use Rattle.jdwp_debuggee.proofs.threads.Threads.mark.Goals as goal

pub returns-clause-list : goal.returns-clause-list
returns-clause-list c =
    let i = c.self.inside in
    let n : length c.mark_one.new.entries ≡ i.entries.len = omega arith in
    let e = rw c.as_mut_slice.ensures.value at c.mark_one.ensures in
    rw (← c.self.view_is) (ap (λ (l : List ThreadEntry). threads_of l i.counts.counts) (with_items_is i.entries c.mark_one.new.entries n ∙ e) ∙ threads-marked c.args.thread.0 i.entries.items i.counts.counts)
