use Rattle.std.proofs.Common.{rules}
use Rattle.jdwp_debuggee.proofs.Kept.{kept-reset}
use Rattle.jdwp_debuggee.proofs.debuggee.Debuggee.reset.Goals as goal

pub invariant_of-self : goal.invariant_of-self
invariant_of-self g c = rw (c.clear_counts.ensures.list, c.clear.ensures, c.clear-2.ensures.items) (kept-reset g.M.Machine.meaning _ c.self.invariant)

pub returns : goal.returns
returns g c = search rules
