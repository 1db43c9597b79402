use Rattle.std.proofs.Common.{rules}
use Rattle.jdwp_debuggee.proofs.settings.Settings.count_limit.Goals as goal

pub returns-clause-value : goal.returns-clause-value
returns-clause-value c = search rules
