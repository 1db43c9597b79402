use Rattle.std.proofs.Common.{◌≡◌, rules, false}
use Rattle.jdwp_debuggee.proofs.Fitting.{start-fits}
use Rattle.jdwp_debuggee.proofs.Kept.{kept-start-by, most-of}
use Rattle.jdwp_debuggee.proofs.ThreadsListed.{least-fits}
use Rattle.jdwp_debuggee.proofs.debuggee.Debuggee.handshake.Goals as goal

pub suspend_by-requires : goal.suspend_by-requires
suspend_by-requires g c = most-of g.M.Machine.meaning _ c.self.invariant

pub invariant_of-self : goal.invariant_of-self
invariant_of-self g c =
    let first : c.self.inside.handshaken ≡ false = search rules in
    rw c.suspend_by.ensures.list (kept-start-by g.M.Machine.meaning _ c.byte.result c.least.result.0 _ c.self.invariant first)

pub returns-clause-fits : goal.returns-clause-fits
returns-clause-fits g c = rw (c.least.ensures, ← c.self.view_is) (least-fits g.M.Machine.meaning g.met.M.Machine.lawful _ _ c.self.invariant.sound)

pub returns-clause-report : goal.returns-clause-report
returns-clause-report g c = rw (← c.self.view_is) (start-fits g.M.Machine.meaning g.met.M.Machine.lawful _ c.self.invariant)
