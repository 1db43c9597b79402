use Rattle.std.proofs.Common.{refl}
use Rattle.jdwp_action.specs.Actions as action
use Rattle.jdwp_debuggee.proofs.Commands.{does_all}
use Rattle.jdwp_debuggee.proofs.Kept.{any, kept-threads}
use Rattle.jdwp_debuggee.proofs.Small.{few-filtered}
use Rattle.jdwp_debuggee.proofs.debuggee.Debuggee.clear_breakpoints.Goals as goal

pub invariant_of-self : goal.invariant_of-self
invariant_of-self g c =
    rw c.remove_breakpoints.ensures (kept-threads g.M.Machine.meaning _ _ c.self.invariant refl refl refl (few-filtered _ _) (does_all g.M.Machine.meaning g.met.M.Machine.lawful _ _ any action.ClearBreakpoints c.self.invariant.sound).sound)
