use Rattle.std.proofs.Common.{rules}
use Rattle.jdwp_debuggee.proofs.debuggee.Debuggee.live.Goals as goal

pub returns-clause-live : goal.returns-clause-live
returns-clause-live g c = search rules

pub returns-clause-counted : goal.returns-clause-counted
returns-clause-counted g c = λ t. rw (c.live.ensures.live, ← c.self.view_is) (c.self.invariant.sound.lives t)
