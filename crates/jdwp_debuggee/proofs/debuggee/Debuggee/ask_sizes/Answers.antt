use Rattle.std.proofs.Common.{rules}
use Rattle.jdwp_debuggee.proofs.debuggee.Debuggee.ask_sizes.Goals as goal

pub returns : goal.returns
returns g c = search rules
