use Rattle.std.proofs.Common.{rules}
use Rattle.jdwp_link.proofs.byte_queue.ByteQueue.clear.Goals as goal

pub invariant_of-self : goal.invariant_of-self
invariant_of-self c = search rules
