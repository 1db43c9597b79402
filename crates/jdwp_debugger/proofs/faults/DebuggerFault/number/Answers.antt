use Rattle.std.proofs.Common.{rules}
use Rattle.jdwp_debugger.proofs.faults.DebuggerFault.number.Goals as goal

pub returns-in-BadReply : goal.returns-in-BadReply
returns-in-BadReply c = search rules
