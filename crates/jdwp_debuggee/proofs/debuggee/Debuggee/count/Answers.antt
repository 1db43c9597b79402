use Rattle.jdwp_debuggee.proofs.Kept.{count-most}
use Rattle.jdwp_debuggee.proofs.debuggee.Debuggee.count.Goals as goal

pub returns-clause-bound : goal.returns-clause-bound
returns-clause-bound g c = rw (← c.self.view_is) (count-most g.M.Machine.meaning _ c.args.thread.0 c.count.result c.self.invariant c.count.ensures)
