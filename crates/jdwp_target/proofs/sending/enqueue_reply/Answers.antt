use Rattle.std.proofs.lemmas.Grind.{common_steps}
use Rattle.std.proofs.Common.{arith}
use Rattle.jdwp_target.proofs.sending.enqueue_reply.Goals as goal

pub enqueue-requires : goal.enqueue-requires
enqueue-requires c = grind (arith, common_steps)

pub returns-in-Written : goal.returns-in-Written
returns-in-Written c = grind (arith, common_steps)
