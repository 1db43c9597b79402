use Rattle.std.proofs.Common.{rules}
use Rattle.jdwp_debugger.proofs.debugger.Debugger.is_busy.Goals as goal

pub returns-then-is_paused : goal.returns-then-is_paused
returns-then-is_paused c = search rules
