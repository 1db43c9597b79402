use Rattle.std.proofs.Common.{rules}
use Rattle.jdwp_wire.proofs.basic.U8Wire.size.Goals as goal

pub returns : goal.returns
returns c = search rules
