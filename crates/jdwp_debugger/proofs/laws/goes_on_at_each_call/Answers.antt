use Rattle.jdwp_debugger.proofs.DebuggerRuns.{each-goes-on}
use Rattle.jdwp_debugger.proofs.laws.goes_on_at_each_call.Goals as goal

pub returns : goal.returns
returns c = each-goes-on
