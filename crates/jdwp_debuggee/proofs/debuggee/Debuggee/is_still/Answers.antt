use Rattle.jdwp_debuggee.proofs.CountLimits.{limit-of}
use Rattle.jdwp_debuggee.proofs.debuggee.Debuggee.is_still.Goals as goal

pub stands_at-requires-clause-within : goal.stands_at-requires-clause-within
stands_at-requires-clause-within g c = rw c.count_limit.ensures.value (limit-of g.M.Machine.meaning _ c.self.invariant)
