use Rattle.std.proofs.lemmas.Grind.{common_steps}
use Rattle.std.proofs.Common.{arith}
use Rattle.jdwp_command.proofs.EntryLaws.{slots_have}
use Rattle.jdwp_command.proofs.stack_frame.get_values.Goals as goal

pub made-requires : goal.made-requires
made-requires c = grind (arith, common_steps, slots_have)
