use Rattle.std.proofs.lemmas.Grind.{common_steps}
use Rattle.std.proofs.Common.{arith}
use Rattle.jdwp_command.proofs.EntryLaws.{modifiers_have}
use Rattle.jdwp_command.proofs.event_request.set.Goals as goal

pub made-requires : goal.made-requires
made-requires c = grind (arith, common_steps, modifiers_have)
