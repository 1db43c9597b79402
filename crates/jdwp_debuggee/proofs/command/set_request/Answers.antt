use Rattle.std.proofs.lemmas.Grind.{common_steps}
use Rattle.std.proofs.Common.{arith}
use Rattle.jdwp_debuggee.proofs.command.set_request.Goals as goal

pub returns-in_default : goal.returns-in_default
returns-in_default c = grind (arith, common_steps)

pub unreachable-requires : goal.unreachable-requires
unreachable-requires c = grind (arith, common_steps)

pub returns : goal.returns
returns c = grind (arith, common_steps)
