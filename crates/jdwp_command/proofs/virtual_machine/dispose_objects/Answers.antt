use Rattle.std.proofs.lemmas.Grind.{common_steps}
use Rattle.std.proofs.Common.{arith}
use Rattle.jdwp_command.proofs.EntryLaws.{disposed_have}
use Rattle.jdwp_command.proofs.virtual_machine.dispose_objects.Goals as goal

pub made-requires : goal.made-requires
made-requires c = grind (arith, common_steps, disposed_have)
