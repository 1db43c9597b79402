use Rattle.std.proofs.Common.{rules}
use Rattle.jdwp_wire.proofs.number.put_count.Goals as goal

pub returns-clause-ok : goal.returns-clause-ok
returns-clause-ok c = search rules
