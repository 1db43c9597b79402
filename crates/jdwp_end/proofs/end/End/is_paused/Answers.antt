use Rattle.std.proofs.Common.{rules}
use Rattle.jdwp_end.proofs.end.End.is_paused.Goals as goal

pub returns-clause-paused : goal.returns-clause-paused
returns-clause-paused c = search rules
