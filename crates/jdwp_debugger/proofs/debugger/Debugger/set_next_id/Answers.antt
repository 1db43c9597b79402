use Rattle.std.proofs.Common.{rules}
use Rattle.jdwp_debugger.proofs.debugger.Debugger.set_next_id.Goals as goal

pub returns : goal.returns
returns c = search rules
