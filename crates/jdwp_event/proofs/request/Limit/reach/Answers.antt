use Rattle.std.proofs.Common.{arith}
use Rattle.std.proofs.lemmas.Grind.{common_steps}
use Rattle.jdwp_event.proofs.request.Limit.reach.Goals as goal

pub returns-in-Count : goal.returns-in-Count
returns-in-Count c = grind (arith, common_steps)
