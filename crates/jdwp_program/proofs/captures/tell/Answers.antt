use Rattle.std.proofs.lemmas.Grind.{common_steps}
use Rattle.std.proofs.Common.{rules, arith}
use Rattle.jdwp_program.proofs.captures.tell.Goals as goal

pub returns-in-Err-2 : goal.returns-in-Err-2
returns-in-Err-2 g c =
    search rules

pub returns-in-Ok-2 : goal.returns-in-Ok-2
returns-in-Ok-2 g c =
    grind (arith, common_steps)
