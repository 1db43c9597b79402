use Rattle.std.proofs.Common.{length}
use Rattle.jdwp_target.specs.Insides.{target_of}
use Rattle.jdwp_target.proofs.TargetRuns.{ran-few}
use Rattle.jdwp_target.proofs.target.Target.session.Goals as goal

pub returns-clause-few : goal.returns-clause-few
returns-clause-few g c =
    let t = c.self.inside in
    rw (← c.self.view_is) (ran-few g.M.Machine.meaning (target_of t.debuggee t.deferral t.began.items t.phases.items (length t.steps.items) t.end) c.self.invariant.ran)
