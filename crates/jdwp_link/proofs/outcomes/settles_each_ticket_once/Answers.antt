use Rattle.jdwp_link.proofs.Settled.{settles-each-once}
use Rattle.jdwp_link.proofs.outcomes.settles_each_ticket_once.Goals as goal

pub returns : goal.returns
returns g c = settles-each-once g.M.Machine.meaning c.of_sessions.ensures.worlds c.settles_each_command_once.ensures
