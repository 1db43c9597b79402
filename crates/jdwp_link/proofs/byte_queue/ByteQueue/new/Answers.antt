use Rattle.std.proofs.Common.{rules}
use Rattle.jdwp_link.proofs.byte_queue.ByteQueue.new.Goals as goal

pub invariant_of-result : goal.invariant_of-result
invariant_of-result c = search rules
