use Rattle.std.proofs.lemmas.Grind.{common_steps}
use Rattle.std.proofs.Common.{arith}
use Rattle.jdwp_script_machine.proofs.group_answers.threads_below.Goals as goal

pub loop-thread-preserved : goal.loop-thread-preserved
loop-thread-preserved c = grind (arith, common_steps)

pub returns : goal.returns
returns c = grind (arith, common_steps)
