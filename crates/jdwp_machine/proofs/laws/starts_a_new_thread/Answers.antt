use Rattle.std.proofs.Common.{rules, arith}
use Rattle.std.proofs.lemmas.Grind.{common_steps}
use Rattle.jdwp_machine.proofs.laws.starts_a_new_thread.Goals as goal

pub returns-clause-before : goal.returns-clause-before
returns-clause-before g c = search rules

pub returns-clause-after : goal.returns-clause-after
returns-clause-after g c = grind (arith, common_steps)
