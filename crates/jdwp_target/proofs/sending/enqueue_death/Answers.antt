use Rattle.std.proofs.lemmas.Grind.{common_steps}
use Rattle.std.proofs.Common.{arith}
use Rattle.jdwp_target.proofs.sending.enqueue_death.Goals as goal

pub put-requires : goal.put-requires
put-requires c = grind (arith, common_steps)

pub enqueue_int-requires : goal.enqueue_int-requires
enqueue_int-requires c = grind (arith, common_steps)

pub put-requires-2 : goal.put-requires-2
put-requires-2 c = grind (arith, common_steps)

pub enqueue_int-requires-2 : goal.enqueue_int-requires-2
enqueue_int-requires-2 c = grind (arith, common_steps)

pub returns : goal.returns
returns c = grind (arith, common_steps)
