use Rattle.std.proofs.Common.{rules}
use Rattle.jdwp_wire.proofs.packet.Header.to_bytes.Goals as goal

pub returns-in-Reply : goal.returns-in-Reply
returns-in-Reply c = search rules
