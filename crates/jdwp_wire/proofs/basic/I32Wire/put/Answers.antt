use Rattle.std.proofs.Common.{rules}
use Rattle.jdwp_wire.proofs.basic.I32Wire.put.Goals as goal

pub returns-clause-ok : goal.returns-clause-ok
returns-clause-ok c = search rules
