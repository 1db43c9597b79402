use Rattle.std.proofs.Common.{arith}
use Rattle.jdwp_target.proofs.DeferredCommands.{messages-length}
use Rattle.jdwp_target.proofs.deferral.Deferral.len.Goals as goal

pub returns-clause-count : goal.returns-clause-count
returns-clause-count c = rw (← c.self.view_is) (omega (arith, messages-length c.self.inside.commands.items, c.self.inside.commands.ok.0))
