use Rattle.std.proofs.lemmas.Grind.{common_steps}
use Rattle.std.proofs.Common.{arith}
use Rattle.jdwp_command.proofs.EntryLaws.{written_have}
use Rattle.jdwp_command.proofs.stack_frame.set_values.Goals as goal

pub made-requires : goal.made-requires
made-requires c = grind (arith, common_steps, written_have)
