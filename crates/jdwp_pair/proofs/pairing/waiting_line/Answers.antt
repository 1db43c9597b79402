use Rattle.std.proofs.Common.{arith}
use Rattle.std.proofs.lemmas.Grind.{common_steps}
use Rattle.std.proofs.lemmas.List.{length-take}
use Rattle.jdwp_pair.proofs.pairing.waiting_line.Goals as goal

pub returns : goal.returns
returns c = grind (arith, common_steps, length-take c.args.run.now.carried c.args.plan.now)
