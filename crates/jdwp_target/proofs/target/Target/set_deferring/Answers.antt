use Rattle.std.proofs.Common.{length}
use Rattle.jdwp_target.proofs.RightTargets.{right-deferring}
use Rattle.jdwp_target.proofs.target.Target.set_deferring.Goals as goal

pub invariant_of-self : goal.invariant_of-self
invariant_of-self g c =
    rw c.set_on.ensures
    (right-deferring g.M.Machine.meaning c.self.inside.debuggee c.self.inside.deferral c.self.inside.began.items c.self.inside.phases.items (length c.self.inside.steps.items) c.self.inside.end c.args.deferring c.self.invariant)
