use Rattle.std.proofs.Common.{arith}
use Rattle.std.proofs.lemmas.Grind.{common_steps}
use Rattle.jdwp_end.proofs.end.End.put.Goals as goal

pub returns-clause-enqueued : goal.returns-clause-enqueued
returns-clause-enqueued g c = grind (arith, common_steps)
