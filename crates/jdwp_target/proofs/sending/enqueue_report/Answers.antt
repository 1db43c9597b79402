use Rattle.std.proofs.lemmas.Grind.{common_steps}
use Rattle.std.proofs.Common.{arith}
use Rattle.jdwp_target.proofs.sending.enqueue_report.Goals as goal

pub put-requires : goal.put-requires
put-requires c = grind (arith, common_steps)

pub returns-clause-enqueued : goal.returns-clause-enqueued
returns-clause-enqueued c = grind (arith, common_steps)
