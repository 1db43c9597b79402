use Rattle.std.proofs.Common.{rules}
use Rattle.jdwp_script.proofs.fault.ScriptFault.number.Goals as goal

pub returns-in-OverLimit : goal.returns-in-OverLimit
returns-in-OverLimit c = search rules
