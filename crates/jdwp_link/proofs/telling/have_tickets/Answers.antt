use Rattle.std.proofs.Common.{◌∙◌}
use Rattle.jdwp_link.proofs.Tells.{first-ticket}
use Rattle.jdwp_link.proofs.telling.have_tickets.Goals as goal

pub returns : goal.returns
returns c = c.is_some.ensures ∙ first-ticket c.args.debugger.now.pending c.unanswered.result c.unanswered.ensures
