use Rattle.std.proofs.Common.{rules}
use Rattle.jdwp_wire.proofs.frame.FrameFault.number.Goals as goal

pub returns-in-TooLong : goal.returns-in-TooLong
returns-in-TooLong c = search rules
