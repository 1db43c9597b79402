use Rattle.std.proofs.Common.{rules}
use Rattle.jdwp_wire.proofs.data_fault.DataFault.number.Goals as goal

pub returns-in-BadTag : goal.returns-in-BadTag
returns-in-BadTag c = search rules
