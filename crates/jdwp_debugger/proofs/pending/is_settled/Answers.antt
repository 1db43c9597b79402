use Rattle.jdwp_debugger.proofs.Settled.{none_settled}
use Rattle.jdwp_debugger.proofs.pending.is_settled.Goals as goal

pub returns-else-settled-ne0 : goal.returns-else-settled-ne0
returns-else-settled-ne0 c = none_settled c.args.settled c.args.id c.args.commands.now.entries c.requires
