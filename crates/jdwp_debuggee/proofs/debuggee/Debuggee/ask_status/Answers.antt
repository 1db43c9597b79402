use Rattle.std.proofs.Common.{rules}
use Rattle.jdwp_debuggee.proofs.debuggee.Debuggee.ask_status.Goals as goal

pub returns-in-Some : goal.returns-in-Some
returns-in-Some g c = search rules
