use Rattle.std.proofs.lemmas.Grind.{common_steps}
use Rattle.std.proofs.Common.{arith}
use Rattle.jdwp_command.proofs.EntryLaws.{fields_have}
use Rattle.jdwp_command.proofs.object_reference.get_values.Goals as goal

pub made-requires : goal.made-requires
made-requires c = grind (arith, common_steps, fields_have)
