use Rattle.std.proofs.Common.{rules}
use Rattle.jdwp_debugger.proofs.debugger.Debugger.unanswered.Goals as goal

pub returns : goal.returns
returns c = search rules
