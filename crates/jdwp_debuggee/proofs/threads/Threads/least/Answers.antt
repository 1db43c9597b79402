use Rattle.std.proofs.Common.{◌∙◌}
use Rattle.jdwp_debuggee.proofs.EntryLists.{least-split}
use Rattle.jdwp_debuggee.proofs.threads.Threads.least.Goals as goal

pub returns-in-len1-up : goal.returns-in-len1-up
returns-in-len1-up c = rw (← c.self.view_is) (rw c.as_slice.ensures.value at c.least_from.ensures ∙ least-split c.self.inside.entries.items c.self.inside.counts.counts _ (rw c.as_slice.ensures.value at c.in-len1-up.len_at_least))
