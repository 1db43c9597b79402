use Rattle.std.proofs.Common.{◌∙◌}
use Rattle.jdwp_debuggee.proofs.EntryLists.{all-within, any-stands}
use Rattle.jdwp_debuggee.proofs.threads.Threads.stands_at.Goals as goal

pub is_at_limit-requires-clause-most : goal.is_at_limit-requires-clause-most
is_at_limit-requires-clause-most c = all-within c.args.limit c.self.inside.entries.items c.self.inside.counts.counts c.self.invariant (rw (← c.self.view_is) at c.requires.within)

pub returns : goal.returns
returns c = rw (← c.self.view_is) (c.is_at_limit.ensures ∙ any-stands c.args.limit c.self.inside.entries.items c.self.inside.counts.counts c.self.invariant)
