use Rattle.std.proofs.lemmas.Grind.{common_steps}
use Rattle.std.proofs.Common.{arith, rules}
use Rattle.jdwp_script.proofs.step_parts.named.Goals as goal

pub returns-in-call : goal.returns-in-call
returns-in-call c = grind (arith, common_steps)

pub returns-in-go : goal.returns-in-go
returns-in-go c = grind (arith, common_steps)

pub returns-in-return : goal.returns-in-return
returns-in-return c = grind (arith, common_steps)

pub returns-in-throw : goal.returns-in-throw
returns-in-throw c = grind (arith, common_steps)

pub returns-in-prepare : goal.returns-in-prepare
returns-in-prepare c = grind (arith, common_steps)

pub returns-in-start : goal.returns-in-start
returns-in-start c = grind (arith, common_steps)

pub returns-in-again : goal.returns-in-again
returns-in-again c = grind (arith, common_steps)

pub returns-in_default : goal.returns-in_default
returns-in_default c = search rules
