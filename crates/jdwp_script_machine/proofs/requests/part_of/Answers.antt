use Rattle.std.proofs.lemmas.Grind.{common_steps}
use Rattle.std.proofs.Common.{arith}
use Rattle.jdwp_script_machine.proofs.requests.part_of.Goals as goal

pub returns-then-or_rest : goal.returns-then-or_rest
returns-then-or_rest c = grind (arith, common_steps)

pub returns-in-Ok-try_from : goal.returns-in-Ok-try_from
returns-in-Ok-try_from c = grind (arith, common_steps)

pub returns-in_default-try_from : goal.returns-in_default-try_from
returns-in_default-try_from c = grind (arith, common_steps)
