use Rattle.std.proofs.Common.{rules}
use Rattle.jdwp_program.proofs.outcome.status_of_session.Goals as goal

pub returns-in-LostByRead-clause-status : goal.returns-in-LostByRead-clause-status
returns-in-LostByRead-clause-status c =
    search rules
