use Rattle.std.proofs.Common.{rules}
use Rattle.jdwp_debuggee.proofs.CountLimits.{limit-of}
use Rattle.jdwp_debuggee.proofs.debuggee.Debuggee.is_ready.Goals as goal

pub stands_at-requires : goal.stands_at-requires
stands_at-requires g c = rw c.count_limit.ensures.value (record { within = limit-of g.M.Machine.meaning _ c.self.invariant; positive = c.self.invariant.limit.0 })

pub returns-then-matches : goal.returns-then-matches
returns-then-matches g c = search rules
