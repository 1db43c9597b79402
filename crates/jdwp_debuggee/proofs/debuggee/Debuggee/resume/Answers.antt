use Rattle.jdwp_debuggee.proofs.Kept.{kept-lowered, kept-stopped}
use Rattle.jdwp_debuggee.proofs.debuggee.Debuggee.resume.Goals as goal

pub invariant_of-self : goal.invariant_of-self
invariant_of-self g c = rw c.lower_all.ensures.list (kept-stopped g.M.Machine.meaning _ _ (kept-lowered g.M.Machine.meaning _ c.self.invariant))
