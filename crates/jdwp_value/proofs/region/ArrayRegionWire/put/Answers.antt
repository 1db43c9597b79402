use Rattle.std.proofs.Common.{rules}
use Rattle.jdwp_value.proofs.region.ArrayRegionWire.put.Goals as goal

pub returns-clause-err : goal.returns-clause-err
returns-clause-err c = search rules
