use Rattle.std.proofs.Common.{length, rules}
use Rattle.jdwp_target.proofs.RightTargets.{right-opened}
use Rattle.jdwp_target.proofs.target.Target.accept.Goals as goal

pub invariant_of-self : goal.invariant_of-self
invariant_of-self g c =
    rw (c.open.ensures, c.begin.ensures, c.push.ensures, c.push-2.ensures, c.new-self-inside.ensures, c.new-self-inside-2.ensures, c.new-self-inside-3.ensures)
    (right-opened g.M.Machine.meaning c.self.inside.debuggee c.self.inside.deferral c.self.inside.began.items c.self.inside.phases.items (length c.self.inside.steps.items) c.self.inside.end c.self.invariant)

pub returns-clause-when : goal.returns-clause-when
returns-clause-when g c = search rules
