use Rattle.std.proofs.Common.{◌∙◌, ap, not}
use Rattle.jdwp_debuggee.proofs.EntryLists.{any-stands}
use Rattle.jdwp_debuggee.proofs.threads.Threads.are_all_suspended.Goals as goal

pub returns : goal.returns
returns c = rw (← c.self.view_is) (c.are_all_suspended.ensures ∙ ap not (any-stands 0 c.self.inside.entries.items c.self.inside.counts.counts c.self.invariant))
