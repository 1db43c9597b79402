use Rattle.std.proofs.lemmas.Grind.{common_steps}
use Rattle.std.proofs.Common.{arith}
use Rattle.jdwp_target.proofs.target.Target.feed.Goals as goal

pub returns-clause-count : goal.returns-clause-count
returns-clause-count g c = cc

pub invariant_of-self : goal.invariant_of-self
invariant_of-self c = grind (arith, common_steps)
