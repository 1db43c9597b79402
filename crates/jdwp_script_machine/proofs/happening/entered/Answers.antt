use Rattle.std.proofs.lemmas.Grind.{common_steps}
use Rattle.std.proofs.Common.{arith}
use Rattle.jdwp_script_machine.proofs.happening.entered.Goals as goal

pub returns-then-frames-ge-MOST_FRAMES : goal.returns-then-frames-ge-MOST_FRAMES
returns-then-frames-ge-MOST_FRAMES c = grind (arith, common_steps)

pub returns-in-Some : goal.returns-in-Some
returns-in-Some c = grind (arith, common_steps)
