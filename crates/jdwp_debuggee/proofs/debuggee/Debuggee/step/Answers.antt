use Rattle.std.proofs.Common.{subst}
use Rattle.jdwp_debuggee.specs.Debuggees.{Debuggee, IsKept, visiting}
use Rattle.jdwp_debuggee.proofs.Fitting.{sends-fit}
use Rattle.jdwp_debuggee.proofs.debuggee.Debuggee.step.Goals as goal

pub returns-clause-fits : goal.returns-clause-fits
returns-clause-fits g c =
    let m = g.M.Machine.meaning in
    let kept = subst (λ (d : Debuggee g.row.M.Denot). IsKept m (visiting 0 d)) c.self.view_is c.self.invariant in
    sends-fit m g.met.M.Machine.lawful _ _ c.args.thread.0 _ kept c.step_into.ensures.ok
