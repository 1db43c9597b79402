use Rattle.std.proofs.lemmas.Grind.{common_steps}
use Rattle.std.proofs.Common.{arith}
use Rattle.jdwp_debuggee.proofs.reading.read_of_thread.Goals as goal

pub returns-in-2-Some : goal.returns-in-2-Some
returns-in-2-Some c = grind (arith, common_steps)

pub returns-in-3-Some : goal.returns-in-3-Some
returns-in-3-Some c = grind (arith, common_steps)

pub returns-in-4-Some : goal.returns-in-4-Some
returns-in-4-Some c = grind (arith, common_steps)

pub returns-in-12-Some : goal.returns-in-12-Some
returns-in-12-Some c = grind (arith, common_steps)

pub returns-in-2-None : goal.returns-in-2-None
returns-in-2-None c = grind (arith, common_steps)
