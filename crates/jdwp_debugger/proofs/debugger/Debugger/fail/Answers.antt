use Rattle.std.proofs.Common.{rules}
use Rattle.jdwp_debugger.proofs.debugger.Debugger.fail.Goals as goal

pub returns-clause-left : goal.returns-clause-left
returns-clause-left c =
    search rules
