use Rattle.std.proofs.Common.{rules}
use Rattle.jdwp_debugger.proofs.asking.Refused.number.Goals as goal

pub returns-in-Busy : goal.returns-in-Busy
returns-in-Busy c = search rules
