use Rattle.std.proofs.lemmas.Grind.{common_steps}
use Rattle.std.proofs.Common.{arith}
use Rattle.jdwp_script_machine.proofs.location_answers.by_modifier.Goals as goal

pub returns-then-modifier-eq-LOCATION_ONLY : goal.returns-then-modifier-eq-LOCATION_ONLY
returns-then-modifier-eq-LOCATION_ONLY c = grind (arith, common_steps)

pub returns-else-kind-byte : goal.returns-else-kind-byte
returns-else-kind-byte c = grind (arith, common_steps)

pub returns-in_default : goal.returns-in_default
returns-in_default c = grind (arith, common_steps)
