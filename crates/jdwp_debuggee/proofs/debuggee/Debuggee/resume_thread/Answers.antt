use Rattle.jdwp_debuggee.proofs.Kept.{kept-lowered-one, kept-stopped}
use Rattle.jdwp_debuggee.proofs.debuggee.Debuggee.resume_thread.Goals as goal

pub invariant_of-self : goal.invariant_of-self
invariant_of-self g c = rw c.lower.ensures.list (kept-stopped g.M.Machine.meaning _ _ (kept-lowered-one g.M.Machine.meaning _ c.args.thread.0 c.self.invariant))
