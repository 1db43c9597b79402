use Rattle.jdwp_debuggee.proofs.KeptSteps.{kept-marked}
use Rattle.jdwp_debuggee.proofs.debuggee.Debuggee.end.Goals as goal

pub invariant_of-self : goal.invariant_of-self
invariant_of-self g c =
    rw c.end_thread-dies.ensures.machine
    (kept-marked g.M.Machine.meaning g.met.M.Machine.lawful _ c.args.thread.0 _ _ c.end_thread-dies.result c.self.invariant (rw (← c.self.view_is) at c.requires.may) (rw (← c.self.view_is) at c.requires.marked)
    c.end_thread-dies.ensures.threads c.end_thread-dies.ensures.last c.end_thread-dies.ensures.requests)
