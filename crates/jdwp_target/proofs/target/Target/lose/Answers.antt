use Rattle.std.proofs.Common.{length, rules}
use Rattle.jdwp_target.proofs.ProtocolTurns.{over-lost}
use Rattle.jdwp_target.proofs.RightTargets.{right-lost}
use Rattle.jdwp_target.proofs.target.Target.lose.Goals as goal

pub invariant_of-self : goal.invariant_of-self
invariant_of-self g c =
    rw (c.reset.ensures, c.keep_where.ensures, c.lose.ensures)
    (right-lost g.M.Machine.meaning c.self.inside.debuggee c.self.inside.deferral c.self.inside.began.items c.self.inside.phases.items (length c.self.inside.steps.items) c.self.inside.end c.self.invariant)

pub returns-clause-lost : goal.returns-clause-lost
returns-clause-lost g c = search rules

pub returns-clause-over : goal.returns-clause-over
returns-clause-over g c = rw (returns-clause-lost g c) (over-lost c.args.self.now)
