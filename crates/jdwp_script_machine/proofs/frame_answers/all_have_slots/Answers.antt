use Rattle.std.proofs.lemmas.Grind.{common_steps}
use Rattle.std.proofs.Common.{arith}
use Rattle.jdwp_script_machine.proofs.frame_answers.all_have_slots.Goals as goal

pub returns-then-not-entry_has_slot : goal.returns-then-not-entry_has_slot
returns-then-not-entry_has_slot c = grind (arith, common_steps)

pub loop-entry-preserved : goal.loop-entry-preserved
loop-entry-preserved c = grind (arith, common_steps)

pub returns : goal.returns
returns c = grind (arith, common_steps)
