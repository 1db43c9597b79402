use Rattle.std.proofs.Common.{arith}
use Rattle.std.proofs.lemmas.Grind.{common_steps}
use Rattle.jdwp_attach.proofs.plans.reading.read_ask.Goals as goal

pub returns : goal.returns
returns c = grind (arith, common_steps)

pub returns-in_err-data-in-Some : goal.returns-in_err-data-in-Some
returns-in_err-data-in-Some c = grind (arith, common_steps)
