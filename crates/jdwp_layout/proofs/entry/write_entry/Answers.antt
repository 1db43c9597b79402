use Rattle.std.proofs.Common.{rules}
use Rattle.jdwp_layout.proofs.entry.write_entry.Goals as goal

pub returns-clause-err : goal.returns-clause-err
returns-clause-err c = search rules
