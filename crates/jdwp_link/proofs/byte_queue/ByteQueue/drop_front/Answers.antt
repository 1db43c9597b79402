use Rattle.std.proofs.Common.{arith}
use Rattle.std.proofs.lemmas.Grind.{common_steps}
use Rattle.jdwp_link.proofs.byte_queue.ByteQueue.drop_front.Goals as goal

pub overflow_add-self : goal.overflow_add-self
overflow_add-self c = grind (arith, common_steps)

pub invariant_of-self-else-self-len : goal.invariant_of-self-else-self-len
invariant_of-self-else-self-len c = grind (arith, common_steps)

pub returns-then-self-len : goal.returns-then-self-len
returns-then-self-len c = grind (arith, common_steps)

pub returns-else-self-len : goal.returns-else-self-len
returns-else-self-len c = grind (arith, common_steps)
