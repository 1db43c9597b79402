use Rattle.std.proofs.lemmas.Grind.{common_steps}
use Rattle.std.proofs.Common.{arith}
use Rattle.jdwp_script_machine.proofs.steps.change_frames.Goals as goal

pub returns-in-Go : goal.returns-in-Go
returns-in-Go c = grind (arith, common_steps)
