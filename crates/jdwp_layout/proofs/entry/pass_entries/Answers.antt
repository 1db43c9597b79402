use Rattle.std.proofs.Common.{rules}
use Rattle.jdwp_layout.proofs.entry.pass_entries.Goals as goal

pub returns-clause-value : goal.returns-clause-value
returns-clause-value c = search rules
