use Rattle.std.proofs.Common.{rules}
use Rattle.jdwp_wire.proofs.basic.BoolWire.size.Goals as goal

pub returns : goal.returns
returns c = search rules
