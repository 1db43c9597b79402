use Rattle.std.proofs.Common.{refl}
use Rattle.jdwp_model.proofs.worked.loss_at_debugger_loses_commands_that_are_carried_out.Goals as goal

pub returns : goal.returns
returns c = record { is_told = refl; carried_out = refl; waits = (refl, refl); nobody_suspended = refl; told_afterwards = refl }
