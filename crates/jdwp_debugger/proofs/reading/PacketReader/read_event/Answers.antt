use Rattle.std.proofs.Common.{rules}
use Rattle.jdwp_debugger.proofs.reading.PacketReader.read_event.Goals as goal

pub returns-in_default : goal.returns-in_default
returns-in_default c = search rules
