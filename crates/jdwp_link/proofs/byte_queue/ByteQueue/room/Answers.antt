use Rattle.std.proofs.Common.{rules}
use Rattle.jdwp_link.proofs.byte_queue.ByteQueue.room.Goals as goal

pub returns : goal.returns
returns c = search rules
